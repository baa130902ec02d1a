-- Bands that were written are read back.
use Rattle.std.proofs.Common.{◌≡◌, ◌⊎◌, inl, inr, ℕ, zero, suc, ◌+◌, ◌-◌, ◌*◌, ◌^◌, ◌<◌, ◌≤◌, min, Bool, true, false, ◌&&◌, nat_le, nat_lt, List, [], ◌∷◌, ◌++◌, length, drop, get_or, replicate, Result, Ok, refl, sym, ap, ◌∙◌, subst, arith, append_assoc, length-append}
use Rattle.std.specs.Int.{w16, to_le_bytes}
use Rattle.std.proofs.lemmas.Bool.{cases_lt}
use Rattle.std.proofs.lemmas.Bool.Decides.{nat_tests}
use Rattle.std.proofs.Math.Nat.{mul-le-mul_left}
use Rattle.gfx_base.specs.declared.pixel.Rgb.{Rgb}
use Rattle.gfx_base.specs.declared.refusal.Refusal.TheVariants.{ClearLengths, BandShape}
use Rattle.gfx_base.specs.Results.{check}
use Rattle.gfx_base.proofs.FieldLemmas.{number_at-written_2}
use Rattle.gfx_base.proofs.ResultLemmas.{and_then_at}
use Rattle.gfx_clear_store.specs.Rings.{Rings, AreRings}
use Rattle.gfx_clear_store.specs.declared.store.TheConstants.{MOST_BAR}
use Rattle.gfx_clear_bands.specs.Bars.{bar}
use Rattle.gfx_clear_bands.specs.Bands.{Drawing, drawing, Stop, here, drawn_down, band_of, is_shaped, band_head, height_of, columns, one_band, bands_within}
use Rattle.gfx_clear_bands.specs.Writing.{black, column, Element, sent, put, written, after, head_bytes, columns_of, band_elements, elements_within, colour_bytes}
use Rattle.gfx_clear_bands.specs.Writing.Element.{Head, Column}
use Rattle.gfx_clear_bands.specs.ReadBack.{ReadsBack}
use Rattle.gfx_clear_bands.specs.declared.band.Band.{Band}
use Rattle.gfx_clear_bands.specs.declared.band.TheConstants.{HEAD}
use Rattle.gfx_clear_bands.proofs.Drawings.{columns-suc, band_at, within-suc, within_none}
use Rattle.gfx_clear_bands.proofs.Outputs.{written-append, after-append}
use Rattle.gfx_clear_bands.proofs.Again.{bar_again, rings_again}
use Rattle.gfx_clear_bands.proofs.Painted.{Paints, InColumn, InColumns, paints_none, paints_both, paints_rings, paints_column, columns_split, in_columns, shows_all}

-- what is read draws these pixels, leaves these rings, and these bytes behind it
pub record Reads (due : Result (Drawing × List ℕ) Stop) (pixels : List Rgb) (These : ℕ → Type 0) (old : Drawing) (rings : Rings) (more : List ℕ) : Type 0 where
  pub new : Drawing
  pub read : due ≡ Ok (new, more)
  pub held : new.rings ≡ rings
  pub are : AreRings new.rings
  pub paints : Paints pixels These old new

length-column : (width : ℕ) (pixels : List Rgb) (at n : ℕ) → length (column width pixels at n) ≡ n
unfolding column
length-column width pixels at zero = refl
length-column width pixels at (suc n) = ap suc (length-column width pixels (at + width) n)

-- a column of a band
column_again : (width : ℕ) (band : Band) (pixels : List Rgb) (rows n x at : ℕ) (old : Drawing) (more : List ℕ)
    → height_of band ≡ rows → rows ≤ MOST_BAR → at ≡ band.top * width + x → AreRings old.rings
    → columns width band (suc n) x old ((sent old.rings band.background (column width pixels at rows)).bytes ++ more)
    ≡ columns width band n (x + 1) (drawn_down width at (column width pixels at rows) (drawing old.colours old.drawn (sent old.rings band.background (column width pixels at rows)).rings)) more
column_again width band pixels rows n x at old more tall most place are =
    let col = column width pixels at rows in
    let s = sent old.rings band.background col in
    columns-suc width band n x old (s.bytes ++ more)
    ∙ and_then_at (here old (bar old.rings (height_of band) band.background (s.bytes ++ more))) (record { pixels = col; rings = s.rings; rest = more }) _
    (ap (here old) (ap (λ z. bar old.rings z band.background (s.bytes ++ more)) tall ∙ bar_again old.rings band.background col rows more are (length-column width pixels at rows) most))
    ∙ ap (λ z. columns width band n (x + 1) (drawn_down width z col (drawing old.colours old.drawn s.rings)) more) (sym place)

written-column : (held : Rings) (background : Rgb) (col : List Rgb) (es : List Element) → written held (Column background col ∷ es) ≡ (sent held background col).bytes ++ written (sent held background col).rings es
unfolding written put
written-column held background col es = refl

after-column : (held : Rings) (background : Rgb) (col : List Rgb) (es : List Element) → after held (Column background col ∷ es) ≡ after (sent held background col).rings es
unfolding after put
after-column held background col es = refl

columns_of-suc : (width : ℕ) (pixels : List Rgb) (background : Rgb) (rows at n : ℕ) → columns_of width pixels background rows at (suc n) ≡ Column background (column width pixels at rows) ∷ columns_of width pixels background rows (at + 1) n
unfolding columns_of
columns_of-suc width pixels background rows at n = refl

columns-zero : (width : ℕ) (band : Band) (pixels : List Rgb) (rows x at : ℕ) (old : Drawing) (more : List ℕ) → AreRings old.rings
    → Reads (columns width band zero x old (written old.rings (columns_of width pixels band.background rows at zero) ++ more)) pixels (InColumns width at rows zero) old
    (after old.rings (columns_of width pixels band.background rows at zero)) more
unfolding columns columns_of written after
columns-zero width band pixels rows x at old more are = record { new = old; read = refl; held = refl; are = are; paints = paints_none pixels (InColumns width at rows zero) old (λ j is. let low = is.inside in omega arith) }

-- columns of a band
columns_again : (width : ℕ) (band : Band) (pixels : List Rgb) (rows n x at : ℕ) (old : Drawing) (more : List ℕ)
    → height_of band ≡ rows → rows ≤ MOST_BAR → at ≡ band.top * width + x → x + n ≤ width → width * (band.top + rows) ≤ length old.colours → length old.drawn ≡ length old.colours → AreRings old.rings
    → Reads (columns width band n x old (written old.rings (columns_of width pixels band.background rows at n) ++ more)) pixels (InColumns width at rows n) old
    (after old.rings (columns_of width pixels band.background rows at n)) more
columns_again width band pixels rows zero x at old more tall most place inside room same are = columns-zero width band pixels rows x at old more are
columns_again width band pixels rows (suc n) x at old more tall most place inside room same are =
    let background = band.background in
    let col = column width pixels at rows in
    let s = sent old.rings background col in
    let es = columns_of width pixels background rows (at + 1) n in
    let before = drawing old.colours old.drawn s.rings in
    let mid = drawn_down width at col before in
    let drawn = paints_column pixels width at rows before (λ k less. let low = mul-le-mul_left width (let l : band.top + (k + 1) ≤ band.top + rows = omega arith in l) in omega (arith, low)) same in
    let first = paints_both pixels (λ j. ⊥) (InColumn width at rows) (InColumn width at rows) old before mid (paints_rings pixels old s.rings) drawn.0 (λ j is. inr is) in
    let rest = columns_again width band pixels rows n (x + 1) (at + 1) mid more tall most (omega arith) (omega arith) (let e = first.colours in omega arith) (first.flags ∙ same ∙ sym first.colours)
    (subst AreRings (sym drawn.1) (rings_again old.rings background col are)) in
    let bytes : written old.rings (columns_of width pixels background rows at (suc n)) ++ more ≡ s.bytes ++ (written mid.rings es ++ more) =
    ap (λ z. written old.rings z ++ more) (columns_of-suc width pixels background rows at n)
    ∙ ap (λ z. z ++ more) (written-column old.rings background col es)
    ∙ append_assoc s.bytes (written s.rings es) more
    ∙ ap (λ z. s.bytes ++ (written z es ++ more)) (sym drawn.1) in
    record {
      new = rest.new;
      read = ap (columns width band (suc n) x old) bytes ∙ column_again width band pixels rows n x at old (written mid.rings es ++ more) tall most place are ∙ rest.read;
      held = rest.held ∙ ap (λ z. after z es) drawn.1 ∙ sym (after-column old.rings background col es) ∙ ap (after old.rings) (sym (columns_of-suc width pixels background rows at n));
      are = rest.are;
      paints = paints_both pixels (InColumn width at rows) (InColumns width (at + 1) rows n) (InColumns width at rows (suc n)) old mid rest.new first rest.paints (columns_split width at rows n);
    }

-- the band that a head says
abbrev head_band : ℕ → ℕ → ℕ → Rgb → Band
head_band width top rows background = record { left = 0; right = width - 1; top = top; bottom = top + rows - 1; background = background }

passes : {E : Type 0} (e : E) (test : Bool) → test ≡ true → check e test ≡ Ok tt
passes e true is = refl
passes e false is = absurd cc

head_of : (width top rows : ℕ) (background : Rgb) (more : List ℕ) → width < 2 ^ 16 → top + rows < 2 ^ 16 → 1 ≤ rows
    → band_of (head_bytes width top rows background ++ more) ≡ head_band width top rows background
unfolding head_bytes
head_of width top rows background more wide low some =
    let back = colour_bytes background ++ more in
    let bottom = to_le_bytes w16 (top + rows - 1) ++ back in
    let upper = to_le_bytes w16 top ++ bottom in
    let right = to_le_bytes w16 (width - 1) ++ upper in
    λ i. record {
      left = number_at-written_2 [] right 0 (omega arith) i;
      right = number_at-written_2 (to_le_bytes w16 0) upper (width - 1) (omega arith) i;
      top = number_at-written_2 (to_le_bytes w16 0 ++ to_le_bytes w16 (width - 1)) bottom top (omega arith) i;
      bottom = number_at-written_2 (to_le_bytes w16 0 ++ (to_le_bytes w16 (width - 1) ++ to_le_bytes w16 top)) back (top + rows - 1) (omega arith) i;
      background = background;
    }

head_long : (width top rows : ℕ) (background : Rgb) (more : List ℕ) → length (head_bytes width top rows background ++ more) ≡ 11 + length more
unfolding head_bytes
head_long width top rows background more = omega arith

head_behind : (width top rows : ℕ) (background : Rgb) (more : List ℕ) → drop HEAD (head_bytes width top rows background ++ more) ≡ more
unfolding head_bytes
head_behind width top rows background more = refl

shaped : (width height top rows : ℕ) (background : Rgb) → 1 ≤ width → 1 ≤ rows → rows ≤ MOST_BAR → top + rows ≤ height → is_shaped width height (head_band width top rows background) ≡ true
shaped width height top rows background wide some most low =
    let a : nat_le 0 (width - 1) ≡ true = grind (arith, nat_tests) in
    let b : nat_lt (width - 1) width ≡ true = grind (arith, nat_tests) in
    let c : nat_le top (top + rows - 1) ≡ true = grind (arith, nat_tests) in
    let d : nat_lt (top + rows - 1) height ≡ true = grind (arith, nat_tests) in
    let e : nat_lt (top + rows - 1 - top) MOST_BAR ≡ true = grind (arith, nat_tests) in
    λ i. a i && b i && c i && d i && e i

head_again : (width height top rows : ℕ) (background : Rgb) (more : List ℕ) → 1 ≤ width → width < 2 ^ 16 → height < 2 ^ 16 → 1 ≤ rows → rows ≤ MOST_BAR → top + rows ≤ height
    → band_head width height (head_bytes width top rows background ++ more) ≡ Ok (head_band width top rows background)
unfolding band_head
head_again width height top rows background more some wide high rows_some most low =
    let bytes = head_bytes width top rows background ++ more in
    let is = head_of width top rows background more wide (omega arith) rows_some in
    let long = head_long width top rows background more in
    let t : nat_le HEAD (length bytes) ≡ true = ap (nat_le HEAD) long ∙ enough (length more) in
    and_then_at (check ClearLengths (nat_le HEAD (length bytes))) tt _ (passes ClearLengths _ t)
    ∙ and_then_at (check BandShape (is_shaped width height (band_of bytes))) tt _ (passes BandShape _ (ap (is_shaped width height) is ∙ shaped width height top rows background some rows_some most low))
    ∙ ap Ok is
  where
    enough : (n : ℕ) → nat_le HEAD (11 + n) ≡ true
    enough n = grind (arith, nat_tests)

-- places from one on and below another
pub record InRange (from to at : ℕ) : Type 0 where
  pub above : from ≤ at
  pub below : at < to

written-head : (held : Rings) (bytes : List ℕ) (es : List Element) → written held (Head bytes ∷ es) ≡ bytes ++ written held es
unfolding written put
written-head held bytes es = refl

after-head : (held : Rings) (bytes : List ℕ) (es : List Element) → after held (Head bytes ∷ es) ≡ after held es
unfolding after put
after-head held bytes es = refl

-- one band
band_again : (width height top rows : ℕ) (pixels : List Rgb) (old : Drawing) (more : List ℕ)
    → 1 ≤ width → width < 2 ^ 16 → height < 2 ^ 16 → 1 ≤ rows → rows ≤ MOST_BAR → top + rows ≤ height
    → length old.colours ≡ width * height → length old.drawn ≡ length old.colours → AreRings old.rings
    → Reads (one_band width height old (written old.rings (band_elements width pixels top rows) ++ more)) pixels (InRange (top * width) (top * width + width * rows)) old
    (after old.rings (band_elements width pixels top rows)) more
band_again width height top rows pixels old more some wide high rows_some most low area same are =
    let background = get_or pixels (top * width) black in
    let head = head_bytes width top rows background in
    let es = columns_of width pixels background rows (top * width) width in
    let band = head_band width top rows background in
    let room : width * (top + rows) ≤ length old.colours = (let l = mul-le-mul_left width low in omega (arith, l)) in
    let tall : height_of band ≡ rows = omega arith in
    let at : top * width ≡ top * width + 0 = omega arith in
    let n : width - 1 + 1 - 0 ≡ width = omega arith in
    let rest = columns_again width band pixels rows width 0 (top * width) old more tall most at (omega arith) room same are in
    let bytes : written old.rings (band_elements width pixels top rows) ++ more ≡ head ++ (written old.rings es ++ more) =
    ap (λ z. z ++ more) (written-head old.rings head es) ∙ append_assoc head (written old.rings es) more in
    record {
      new = rest.new;
      read = ap (one_band width height old) bytes
          ∙ band_at width height old (head ++ (written old.rings es ++ more)) band (head_again width height top rows background (written old.rings es ++ more) some wide high rows_some most low)
          ∙ ap (columns width band (width - 1 + 1 - 0) 0 old) (head_behind width top rows background (written old.rings es ++ more))
          ∙ ap (λ z. columns width band z 0 old (written old.rings es ++ more)) n
          ∙ rest.read;
      held = rest.held ∙ sym (after-head old.rings head es);
      are = rest.are;
      paints = record {
        colours = rest.paints.colours;
        flags = rest.paints.flags;
        keeps = rest.paints.keeps;
        shows = λ j is. rest.paints.shows j (in_columns width (top * width) rows j some is.above is.below);
      };
    }

-- bands to the end
record ReadsAll (due : Result Drawing Stop) (pixels : List Rgb) (These : ℕ → Type 0) (old : Drawing) (rings : Rings) : Type 0 where
  new : Drawing
  read : due ≡ Ok new
  held : new.rings ≡ rings
  paints : Paints pixels These old new

none_again : (most width height : ℕ) (pixels : List Rgb) (from to : ℕ) (old : Drawing) (es : List Element) → es ≡ [] → to ≤ from
    → ReadsAll (bands_within most width height old (written old.rings es)) pixels (InRange from to) old (after old.rings es)
unfolding written after
none_again most width height pixels from to old [] e less = record {
  new = old;
  read = within_none most width height old [] refl;
  held = refl;
  paints = paints_none pixels (InRange from to) old (λ j is. let a = is.above in let b = is.below in omega arith);
}
none_again most width height pixels from to old (x ∷ es) e less = absurd cc

elements-zero : (width : ℕ) (pixels : List Rgb) (top left : ℕ) → elements_within zero width pixels top left ≡ []
unfolding elements_within
elements-zero width pixels top left = refl

elements-none : (m width : ℕ) (pixels : List Rgb) (top : ℕ) → elements_within (suc m) width pixels top zero ≡ []
unfolding elements_within
elements-none m width pixels top = refl

elements-suc : (m width : ℕ) (pixels : List Rgb) (top left : ℕ) → elements_within (suc m) width pixels top (suc left)
    ≡ band_elements width pixels top (min MOST_BAR (suc left)) ++ elements_within m width pixels (top + min MOST_BAR (suc left)) (suc left - min MOST_BAR (suc left))
unfolding elements_within
elements-suc m width pixels top left = refl

-- a band, and then the others
more_again : (most width height : ℕ) (pixels : List Rgb) (top rows to : ℕ) (old : Drawing) (others : List Element) (all : List Element)
    → all ≡ band_elements width pixels top rows ++ others → length (written old.rings all) ≤ most
    → ((more : List ℕ) → Reads (one_band width height old (written old.rings (band_elements width pixels top rows) ++ more)) pixels (InRange (top * width) (top * width + width * rows)) old (after old.rings (band_elements width pixels top rows)) more)
    → ((fewer : ℕ) (mid : Drawing) → mid.rings ≡ after old.rings (band_elements width pixels top rows) → AreRings mid.rings → length mid.colours ≡ length old.colours → length mid.drawn ≡ length old.drawn → length (written mid.rings others) ≤ fewer
    → ReadsAll (bands_within fewer width height mid (written mid.rings others)) pixels (InRange (top * width + width * rows) to) mid (after mid.rings others))
    → ReadsAll (bands_within most width height old (written old.rings all)) pixels (InRange (top * width) to) old (after old.rings all)
more_again most width height pixels top rows to old others all cut enough one then = by most bytes enough
  where
    band : List Element
    band = band_elements width pixels top rows

    held : Rings
    held = after old.rings band

    behind : List ℕ
    behind = written held others

    bytes : written old.rings all ≡ written old.rings band ++ behind
    bytes = ap (written old.rings) cut ∙ written-append old.rings band others

    first : Reads (one_band width height old (written old.rings band ++ behind)) pixels (InRange (top * width) (top * width + width * rows)) old held behind
    first = one behind

    background : Rgb
    background = get_or pixels (top * width) black

    long : length (written old.rings band ++ behind) ≡ 11 + length (written old.rings (columns_of width pixels background rows (top * width) width) ++ behind)
    long = ap length (ap (λ z. z ++ behind) (written-head old.rings (head_bytes width top rows background) (columns_of width pixels background rows (top * width) width))
        ∙ append_assoc (head_bytes width top rows background) (written old.rings (columns_of width pixels background rows (top * width) width)) behind)
        ∙ head_long width top rows background (written old.rings (columns_of width pixels background rows (top * width) width) ++ behind)

    shorter : length behind < length (written old.rings band ++ behind)
    shorter = let e = length-append (written old.rings (columns_of width pixels background rows (top * width) width)) behind in omega (arith, long)

    by : (n : ℕ) → written old.rings all ≡ written old.rings band ++ behind → length (written old.rings all) ≤ n
        → ReadsAll (bands_within n width height old (written old.rings all)) pixels (InRange (top * width) to) old (after old.rings all)
    by zero e few = let l = ap length e in absurd (omega (arith, shorter))
    by (suc n) e few =
        let l = ap length e in
        let mid = first.new in
        let rest = then n mid first.held first.are first.paints.colours first.paints.flags
        (let m = ap (λ z. length (written z others)) first.held in omega (arith, shorter)) in
        record {
          new = rest.new;
          read = ap (bands_within (suc n) width height old) e
              ∙ within-suc n width height old (written old.rings band ++ behind) (omega (arith, shorter))
              ∙ and_then_at (one_band width height old (written old.rings band ++ behind)) (mid, behind) _ first.read
              ∙ ap (λ z. bands_within n width height mid (written z others)) (sym first.held)
              ∙ rest.read;
          held = rest.held ∙ ap (λ z. after z others) first.held ∙ sym (after-append old.rings band others) ∙ ap (after old.rings) (sym cut);
          paints = paints_both pixels (InRange (top * width) (top * width + width * rows)) (InRange (top * width + width * rows) to) (InRange (top * width) to) old mid rest.new first.paints rest.paints
              (λ j is. split j is (cases_lt j (top * width + width * rows)));
        }
      where
        split : (j : ℕ) → InRange (top * width) to j → ((j < top * width + width * rows) ⊎ (top * width + width * rows ≤ j))
            → InRange (top * width) (top * width + width * rows) j ⊎ InRange (top * width + width * rows) to j
        split j is (inl less) = inl (record { above = is.above; below = less })
        split j is (inr more) = inr (record { above = more; below = is.below })

-- all bands from this row on
bands_again : (m most width height top left : ℕ) (pixels : List Rgb) (old : Drawing) → left ≤ m → top + left ≡ height → 1 ≤ width → width < 2 ^ 16 → height < 2 ^ 16
    → length old.colours ≡ width * height → length old.drawn ≡ length old.colours → AreRings old.rings
    → length (written old.rings (elements_within m width pixels top left)) ≤ most
    → ReadsAll (bands_within most width height old (written old.rings (elements_within m width pixels top left))) pixels (InRange (top * width) (height * width)) old
    (after old.rings (elements_within m width pixels top left))
bands_again zero most width height top left pixels old few whole some wide high area same are enough =
    none_again most width height pixels (top * width) (height * width) old (elements_within zero width pixels top left) (elements-zero width pixels top left)
    (let e : top ≡ height = omega arith in subst (λ z. height * width ≤ z * width) (sym e) (omega arith))
bands_again (suc m) most width height top zero pixels old few whole some wide high area same are enough =
    none_again most width height pixels (top * width) (height * width) old (elements_within (suc m) width pixels top zero) (elements-none m width pixels top)
    (let e : top ≡ height = omega arith in subst (λ z. height * width ≤ z * width) (sym e) (omega arith))
bands_again (suc m) most width height top (suc left) pixels old few whole some wide high area same are enough =
    let rows = min MOST_BAR (suc left) in
    let others = elements_within m width pixels (top + rows) (suc left - rows) in
    let at : (top + rows) * width ≡ top * width + width * rows = omega arith in
    more_again most width height pixels top rows (height * width) old others (elements_within (suc m) width pixels top (suc left)) (elements-suc m width pixels top left) enough
    (λ more. band_again width height top rows pixels old more some wide high (omega arith) (omega arith) (omega arith) area same are)
    (λ fewer mid held ring colours flags short. subst (λ z. ReadsAll (bands_within fewer width height mid (written mid.rings others)) pixels (InRange z (height * width)) mid (after mid.rings others)) at
    (bands_again m fewer width height (top + rows) (suc left - rows) pixels mid (omega arith) (omega arith) some wide high (colours ∙ area) (flags ∙ same ∙ sym colours) ring short))

-- a picture that was written is drawn whole
pub reads_back : ReadsBack
reads_back width height pixels old some wide high area colours flags are =
    let all = bands_again height (length (written old.rings (elements_within height width pixels 0 height))) width height 0 height pixels old (omega arith) (omega arith) some wide high colours (flags ∙ sym colours) are (omega arith) in
    let shown = shows_all pixels all.new (all.paints.colours ∙ colours ∙ sym area) (all.paints.flags ∙ flags ∙ sym area)
    (λ at within. all.paints.shows at (record { above = omega arith; below = omega (arith, area) })) in
    all.read ∙ ap Ok (shown ∙ ap (drawing pixels (replicate (length pixels) true)) all.held)
