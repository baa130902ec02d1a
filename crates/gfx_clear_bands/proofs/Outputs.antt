-- One more element, or some more, written.
use Rattle.std.proofs.Common.{◌≡◌, ℕ, zero, suc, ◌+◌, ◌-◌, ◌*◌, ◌<◌, ◌≤◌, min, List, [], ◌∷◌, ◌++◌, get_or, Result, Ok, Err, refl, sym, ap, ◌∙◌, subst, arith, append_assoc, append-nil}
use Rattle.std.specs.Prelude.{OnOk, OnErr}
use Rattle.gfx_base.specs.declared.pixel.Rgb.{Rgb}
use Rattle.gfx_clear_store.specs.Rings.{Rings, with_mark}
use Rattle.gfx_clear_store.specs.declared.store.TheConstants.{MOST_BAR}
use Rattle.gfx_clear_bands.specs.Writing.{sent, black, head_bytes, Element, put, written, after, band_elements, elements_within, columns_of, column, Output, output, with_written, WritesPart}
use Rattle.gfx_clear_bands.specs.Writing.Element.{Head, Column}

pub written-append : (old : Rings) (xs ys : List Element) → written old (xs ++ ys) ≡ written old xs ++ written (after old xs) ys
unfolding written after
written-append old [] ys = refl
written-append old (x ∷ xs) ys =
    ap (λ z. (put old x).bytes ++ z) (written-append (put old x).rings xs ys)
    ∙ sym (append_assoc (put old x).bytes (written (put old x).rings xs) (written (after (put old x).rings xs) ys))

pub after-append : (old : Rings) (xs ys : List Element) → after old (xs ++ ys) ≡ after (after old xs) ys
unfolding after
after-append old [] ys = refl
after-append old (x ∷ xs) ys = after-append (put old x).rings xs ys

pub with_written-append : (old : Output) (xs ys : List Element) → with_written (with_written old xs) ys ≡ with_written old (xs ++ ys)
with_written-append old xs ys = λ i. output
    (with_mark (sym (after-append old.store.held xs ys) i) old.store.marked)
    ((append_assoc old.bytes (written old.store.held xs) (written (after old.store.held xs) ys) ∙ ap (λ z. old.bytes ++ z) (sym (written-append old.store.held xs ys))) i)

pub with_written-none : (old : Output) → with_written old [] ≡ old
unfolding written after
with_written-none old = λ i. output (with_mark old.store.held old.store.marked) (append-nil old.bytes i)

-- what one element writes
pub one_written : (old : Output) (e : Element) (new : Output) → new.bytes ≡ old.bytes ++ (put old.store.held e).bytes → new.store ≡ with_mark (put old.store.held e).rings old.store.marked
    → new ≡ with_written old (e ∷ [])
unfolding written after
one_written old e new bytes store = λ i. output (store i) ((bytes ∙ ap (λ z. old.bytes ++ z) (sym (append-nil (put old.store.held e).bytes))) i)

-- some are written, and these are left of all
pub record Going (all left : List Element) (old new : Output) : Type 0 where
  pub done : List Element
  pub cut : done ++ left ≡ all
  pub wrote : new ≡ with_written old done

pub going_start : (all : List Element) (old : Output) → Going all all old old
going_start all old = record { done = []; cut = refl; wrote = sym (with_written-none old) }

pub going_more : (all first left : List Element) (old mid new : Output) → Going all (first ++ left) old mid → new ≡ with_written mid first → Going all left old new
going_more all first left old mid new going more = record {
  done = going.done ++ first;
  cut = append_assoc going.done first left ∙ going.cut;
  wrote = more ∙ ap (λ z. with_written z first) going.wrote ∙ with_written-append old going.done first;
}

pub going_end : (all : List Element) (old new : Output) → Going all [] old new → new ≡ with_written old all
going_end all old new going = going.wrote ∙ ap (with_written old) (sym (append-nil going.done) ∙ going.cut)

pub going_stop : (all first left : List Element) (old mid new : Output) → Going all (first ++ left) old mid → WritesPart first mid new → WritesPart all old new
going_stop all first left old mid new going part = record {
  done = going.done ++ part.done;
  left = part.left ++ left;
  cut = sym (append_assoc going.done part.done (part.left ++ left) ∙ ap (λ z. going.done ++ z) (sym (append_assoc part.done part.left left) ∙ ap (λ z. z ++ left) (sym part.cut)) ∙ going.cut);
  wrote = part.wrote ∙ ap (λ z. with_written z part.done) going.wrote ∙ with_written-append old going.done part.done;
}

pub nothing_written : (all : List Element) (old new : Output) → new ≡ old → WritesPart all old new
nothing_written all old new same = record { done = []; left = all; cut = refl; wrote = same ∙ sym (with_written-none old) }

-- the columns from this one on
pub columns_left : (width : ℕ) (pixels : List Rgb) (background : Rgb) (rows start x : ℕ) → x < width
    → columns_of width pixels background rows (start + x) (width - x) ≡ (Column background (column width pixels (start + x) rows) ∷ []) ++ columns_of width pixels background rows (start + (x + 1)) (width - (x + 1))
unfolding columns_of
columns_left width pixels background rows start x less =
    let n : width - x ≡ suc (width - (x + 1)) = omega arith in
    let at : start + x + 1 ≡ start + (x + 1) = omega arith in
    ap (columns_of width pixels background rows (start + x)) n
    ∙ ap (λ z. Column background (column width pixels (start + x) rows) ∷ columns_of width pixels background rows z (width - (x + 1))) at

pub columns_end : (width : ℕ) (pixels : List Rgb) (background : Rgb) (rows at x : ℕ) → width ≤ x → columns_of width pixels background rows at (width - x) ≡ []
unfolding columns_of
columns_end width pixels background rows at x past = let n : width - x ≡ 0 = omega arith in ap (columns_of width pixels background rows at) n

-- the bands from this row on
pub record BandsLeft (width height : ℕ) (pixels : List Rgb) (top : ℕ) (old new : Output) : Type 0 where
  pub most : ℕ
  pub enough : height - top ≤ most
  pub going : Going (elements_within height width pixels 0 height) (elements_within most width pixels top (height - top)) old new

bands_suc : (most width : ℕ) (pixels : List Rgb) (top left rows : ℕ) → 0 < left → rows ≡ min MOST_BAR left
    → elements_within (suc most) width pixels top left ≡ band_elements width pixels top rows ++ elements_within most width pixels (top + rows) (left - rows)
unfolding elements_within
bands_suc most width pixels top zero rows some e = absurd (omega arith)
bands_suc most width pixels top (suc left) rows some e = ap (λ z. band_elements width pixels top z ++ elements_within most width pixels (top + z) (suc left - z)) (sym e)

-- one band more
pub bands_next : (width height : ℕ) (pixels : List Rgb) (top rows : ℕ) (old mid : Output) → top < height → rows ≡ min MOST_BAR (height - top) → BandsLeft width height pixels top old mid
    → (more : ℕ) × (height - (top + rows) ≤ more) × Going (elements_within height width pixels 0 height) (band_elements width pixels top rows ++ elements_within more width pixels (top + rows) (height - (top + rows))) old mid
bands_next width height pixels top rows old mid less e left = by left.most left.enough left.going
  where
    by : (most : ℕ) → height - top ≤ most → Going (elements_within height width pixels 0 height) (elements_within most width pixels top (height - top)) old mid
        → (more : ℕ) × (height - (top + rows) ≤ more) × Going (elements_within height width pixels 0 height) (band_elements width pixels top rows ++ elements_within more width pixels (top + rows) (height - (top + rows))) old mid
    by zero enough going = absurd (omega arith)
    by (suc more) enough going =
        let rest : height - top - rows ≡ height - (top + rows) = omega arith in
        let some : 1 ≤ rows = omega (arith, e) in (
          more,
          omega arith,
          subst (λ z. Going (elements_within height width pixels 0 height) z old mid)
              (bands_suc more width pixels top (height - top) rows (omega arith) e ∙ ap (λ z. band_elements width pixels top rows ++ elements_within more width pixels (top + rows) z) rest) going,
        )

within_none : (most width : ℕ) (pixels : List Rgb) (top left : ℕ) → left ≡ 0 → elements_within most width pixels top left ≡ []
unfolding elements_within
within_none zero width pixels top left e = refl
within_none (suc most) width pixels top zero e = refl
within_none (suc most) width pixels top (suc left) e = absurd (omega arith)

pub bands_end : (width height : ℕ) (pixels : List Rgb) (top : ℕ) (old new : Output) → height ≤ top → BandsLeft width height pixels top old new → new ≡ with_written old (elements_within height width pixels 0 height)
bands_end width height pixels top old new past left =
    going_end (elements_within height width pixels 0 height) old new
    (subst (λ z. Going (elements_within height width pixels 0 height) z old new) (within_none left.most width pixels top (height - top) (omega arith)) left.going)

pub bands_start : (width height : ℕ) (pixels : List Rgb) (old : Output) → BandsLeft width height pixels 0 old old
bands_start width height pixels old = record { most = height; enough = omega arith; going = subst (λ z. Going (elements_within height width pixels 0 height) (elements_within height width pixels 0 z) old old) (omega arith) (going_start (elements_within height width pixels 0 height) old) }

pub on_ok : {A E : Type 0} {P Q : Type 0} (r : Result A E) → (P → Q) → OnOk r P → OnOk r Q
on_ok (Ok x) f p = f p
on_ok (Err e) f p = p

pub on_err : {A E : Type 0} {P Q : Type 0} (r : Result A E) → (P → Q) → OnErr r P → OnErr r Q
on_err (Ok x) f p = p
on_err (Err e) f p = f p

-- a column that was sent
pub column_written : (old new : Output) (background : Rgb) (pixels due : List Rgb) → pixels ≡ due
    → new.bytes ≡ old.bytes ++ (sent old.store.held background pixels).bytes → new.store ≡ with_mark (sent old.store.held background pixels).rings old.store.marked
    → new ≡ with_written old (Column background due ∷ [])
unfolding put
column_written old new background pixels due same bytes store =
    one_written old (Column background pixels) new bytes store ∙ ap (λ z. with_written old (Column background z ∷ [])) same

-- a head that was sent
pub head_written : (old new : Output) (sent due : List ℕ) → sent ≡ due → new.bytes ≡ old.bytes ++ sent → new.store ≡ old.store → new ≡ with_written old (Head due ∷ [])
unfolding put
head_written old new sent due same bytes store = one_written old (Head sent) new bytes store ∙ ap (λ z. with_written old (Head z ∷ [])) same

-- the first, and then the others
pub all_behind : (first : Element) (others : List Element) (old mid new : Output) → mid ≡ with_written old (first ∷ []) → new ≡ with_written mid others → new ≡ with_written old (first ∷ others)
all_behind first others old mid new one more = more ∙ ap (λ z. with_written z others) one ∙ with_written-append old (first ∷ []) others

pub part_behind : (first : Element) (others : List Element) (old mid new : Output) → mid ≡ with_written old (first ∷ []) → WritesPart others mid new → WritesPart (first ∷ others) old new
part_behind first others old mid new one part = record {
  done = first ∷ part.done;
  left = part.left;
  cut = ap (λ z. first ∷ z) part.cut;
  wrote = part.wrote ∙ ap (λ z. with_written z part.done) one ∙ with_written-append old (first ∷ []) part.done;
}

-- all columns are left
pub columns_start : (width : ℕ) (pixels : List Rgb) (background : Rgb) (rows start : ℕ) (old : Output)
    → Going (columns_of width pixels background rows start width) (columns_of width pixels background rows (start + 0) (width - 0)) old old
columns_start width pixels background rows start old =
    let at : start ≡ start + 0 = omega arith in
    let n : width ≡ width - 0 = omega arith in
    subst (λ z. Going (columns_of width pixels background rows start width) z old old) (λ i. columns_of width pixels background rows (at i) (n i)) (going_start (columns_of width pixels background rows start width) old)

pub columns_next : (width : ℕ) (pixels : List Rgb) (background : Rgb) (rows start x : ℕ) (old mid new : Output) → x < width
    → Going (columns_of width pixels background rows start width) (columns_of width pixels background rows (start + x) (width - x)) old mid
    → new ≡ with_written mid (Column background (column width pixels (start + x) rows) ∷ [])
    → Going (columns_of width pixels background rows start width) (columns_of width pixels background rows (start + (x + 1)) (width - (x + 1))) old new
columns_next width pixels background rows start x old mid new less going one =
    let all = columns_of width pixels background rows start width in
    going_more all (Column background (column width pixels (start + x) rows) ∷ []) (columns_of width pixels background rows (start + (x + 1)) (width - (x + 1))) old mid new
    (subst (λ z. Going all z old mid) (columns_left width pixels background rows start x less) going) one

-- a column that was not written
pub columns_part : (width : ℕ) (pixels : List Rgb) (background : Rgb) (rows start x : ℕ) (old mid new : Output)
    → Going (columns_of width pixels background rows start width) (columns_of width pixels background rows (start + x) (width - x)) old mid → new ≡ mid
    → WritesPart (columns_of width pixels background rows start width) old new
columns_part width pixels background rows start x old mid new going same =
    record { done = going.done; left = columns_of width pixels background rows (start + x) (width - x); cut = sym going.cut; wrote = same ∙ going.wrote }

pub columns_done : (width : ℕ) (pixels : List Rgb) (background : Rgb) (rows start x : ℕ) (old new : Output) → width ≤ x
    → Going (columns_of width pixels background rows start width) (columns_of width pixels background rows (start + x) (width - x)) old new
    → new ≡ with_written old (columns_of width pixels background rows start width)
columns_done width pixels background rows start x old new past going =
    let all = columns_of width pixels background rows start width in
    going_end all old new (subst (λ z. Going all z old new) (columns_end width pixels background rows (start + x) x past) going)

-- a band that was written
pub bands_step : (width height : ℕ) (pixels : List Rgb) (top rows : ℕ) (old mid new : Output) → top < height → rows ≡ min MOST_BAR (height - top)
    → BandsLeft width height pixels top old mid → new ≡ with_written mid (band_elements width pixels top rows) → BandsLeft width height pixels (top + rows) old new
bands_step width height pixels top rows old mid new less e left one =
    let next = bands_next width height pixels top rows old mid less e left in
    record {
      most = next.0;
      enough = next.1;
      going = going_more (elements_within height width pixels 0 height) (band_elements width pixels top rows) (elements_within next.0 width pixels (top + rows) (height - (top + rows))) old mid new next.2 one;
    }

-- and one of which only a part was
pub bands_part : (width height : ℕ) (pixels : List Rgb) (top rows : ℕ) (old mid new : Output) → top < height → rows ≡ min MOST_BAR (height - top)
    → BandsLeft width height pixels top old mid → WritesPart (band_elements width pixels top rows) mid new → WritesPart (elements_within height width pixels 0 height) old new
bands_part width height pixels top rows old mid new less e left part =
    let next = bands_next width height pixels top rows old mid less e left in
    going_stop (elements_within height width pixels 0 height) (band_elements width pixels top rows) (elements_within next.0 width pixels (top + rows) (height - (top + rows))) old mid new next.2 part

-- the head of a band, and then its columns
pub band_begun : (width : ℕ) (pixels : List Rgb) (top rows start : ℕ) (old mid : Output) (sent : List ℕ) → start ≡ top * width
    → sent ≡ head_bytes width top rows (get_or pixels start black) → mid.bytes ≡ old.bytes ++ sent → mid.store ≡ old.store
    → mid ≡ with_written old (Head (head_bytes width top rows (get_or pixels (top * width) black)) ∷ [])
band_begun width pixels top rows start old mid sent at same bytes store =
    head_written old mid sent (head_bytes width top rows (get_or pixels (top * width) black)) (same ∙ ap (λ z. head_bytes width top rows (get_or pixels z black)) at) bytes store

pub band_done : (width : ℕ) (pixels : List Rgb) (top rows start : ℕ) (old mid new : Output) → start ≡ top * width
    → mid ≡ with_written old (Head (head_bytes width top rows (get_or pixels (top * width) black)) ∷ [])
    → new ≡ with_written mid (columns_of width pixels (get_or pixels start black) rows start width)
    → new ≡ with_written old (band_elements width pixels top rows)
band_done width pixels top rows start old mid new at one more =
    all_behind (Head (head_bytes width top rows (get_or pixels (top * width) black))) (columns_of width pixels (get_or pixels (top * width) black) rows (top * width) width) old mid new one
    (more ∙ ap (λ z. with_written mid (columns_of width pixels (get_or pixels z black) rows z width)) at)

pub band_cut : (width : ℕ) (pixels : List Rgb) (top rows start : ℕ) (old mid new : Output) → start ≡ top * width
    → mid ≡ with_written old (Head (head_bytes width top rows (get_or pixels (top * width) black)) ∷ [])
    → WritesPart (columns_of width pixels (get_or pixels start black) rows start width) mid new
    → WritesPart (band_elements width pixels top rows) old new
band_cut width pixels top rows start old mid new at one part =
    part_behind (Head (head_bytes width top rows (get_or pixels (top * width) black))) (columns_of width pixels (get_or pixels (top * width) black) rows (top * width) width) old mid new one
    (subst (λ z. WritesPart (columns_of width pixels (get_or pixels z black) rows z width) mid new) at part)
