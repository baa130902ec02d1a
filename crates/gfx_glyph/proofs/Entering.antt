-- All glyphs stay entered.
use Rattle.std.proofs.Common.{◌≡◌, ◌≢◌, ◌⊎◌, inl, inr, ℕ, ◌*◌, ◌<◌, ◌≤◌, min, Bool, true, false, List, length, get_or, replicate, Some, None, refl, sym, ap, ◌∙◌, subst, arith}
use Rattle.std.specs.Prelude.{slice_set}
use Rattle.std.proofs.lemmas.Bool.{cases_eq, cases_lt}
use Rattle.std.proofs.lemmas.List.{get_or-set_other, get_or-set_same, get_or_past, get_or-replicate, length-replicate, get_or_default}
use Rattle.gfx_base.specs.declared.pixel.Rgb.{Rgb}
use Rattle.gfx_glyph.specs.declared.glyph.Glyph.{Glyph}
use Rattle.gfx_glyph.specs.Glyphs.{Slot, slot_at, stands, no_glyphs}
use Rattle.gfx_glyph.specs.Index.{print_of, home_of, IsEntered, AreEntered}
use Rattle.gfx_glyph.proofs.Same.{stands_pixels}

-- no glyphs are all entered
pub entered_none : (places : ℕ) (slots : List Slot) (prints starts : List ℕ) → slots ≡ no_glyphs places → AreEntered slots prints starts
unfolding no_glyphs
entered_none places slots prints starts e place held at = none (cases_lt place places)
  where
    none : ((place < places) ⊎ (places ≤ place)) → IsEntered slots prints starts place held
    none (inl within) =
        let empty : slot_at slots place ≡ None = ap (λ z. slot_at z place) e ∙ get_or-replicate places place None None within in absurd cc
    none (inr past) =
        let empty : slot_at slots place ≡ None = ap (λ z. slot_at z place) e ∙ get_or_past (replicate places None) place None (omega (arith, length-replicate {A = Slot} places None)) in absurd cc

-- one more glyph is entered, and the others stay so
pub entered_more : (slots : List Slot) (prints starts : List ℕ) (place print start : ℕ) (new : Glyph) → AreEntered slots prints starts
    → place < length slots → place < length prints → home_of print < length starts → print ≡ print_of new.pixels → length new.pixels ≡ new.width * new.height
    → start ≡ min (get_or starts (home_of print) 0) place → AreEntered (slice_set slots place (Some new)) (slice_set prints place print) (slice_set starts (home_of print) start)
entered_more slots prints starts place print start new all in_slots in_prints in_starts is area less other held at = by (cases_eq other place)
  where
    -- a start is never later than before
    earlier : (home : ℕ) → get_or (slice_set starts (home_of print) start) home 0 ≤ get_or starts home 0
    earlier home = side (cases_eq home (home_of print))
      where
        side : ((home ≡ home_of print) ⊎ (home ≢ home_of print)) → get_or (slice_set starts (home_of print) start) home 0 ≤ get_or starts home 0
        side (inl same) = rw same (omega (arith, get_or-set_same starts (home_of print) start 0 in_starts))
        side (inr apart) = omega (arith, get_or-set_other starts (home_of print) home start 0 apart)

    by : ((other ≡ place) ⊎ (other ≢ place)) → IsEntered (slice_set slots place (Some new)) (slice_set prints place print) (slice_set starts (home_of print) start) other held
    by (inl here) =
        let found : slot_at (slice_set slots place (Some new)) place ≡ Some held = ap (slot_at (slice_set slots place (Some new))) (sym here) ∙ at in
        let there : slot_at (slice_set slots place (Some new)) place ≡ Some new = get_or-set_same slots place (Some new) None in_slots in
        let same : new ≡ held = cc in
        let same_print : print ≡ print_of held.pixels = is ∙ ap (λ z. print_of z.pixels) same in
        record {
          print = ap (λ z. get_or (slice_set prints place print) z 0) here ∙ (get_or-set_same prints place print 0 in_prints ∙ same_print);
          start = subst (λ z. get_or (slice_set starts (home_of print) start) (home_of z) 0 ≤ other) same_print
              (omega (arith, get_or-set_same starts (home_of print) start 0 in_starts));
          area = subst (λ (z : Glyph). length z.pixels ≡ z.width * z.height) same area;
        }
    by (inr apart) =
        let found : slot_at slots other ≡ Some held = sym (get_or-set_other slots place other (Some new) None apart) ∙ at in
        let old = all other held found in
        record {
          print = get_or-set_other prints place other print 0 apart ∙ old.print;
          start = omega (arith, earlier (home_of (print_of held.pixels)), old.start);
          area = old.area;
        }

-- another print, other pixels
pub print_other : (slots : List Slot) (prints starts : List ℕ) (place width height : ℕ) (pixels : List Rgb) → AreEntered slots prints starts
    → get_or prints place 0 ≢ print_of pixels → (held : Bool) → stands width height pixels (slot_at slots place) ≡ held → stands width height pixels (slot_at slots place) ≡ false
print_other slots prints starts place width height pixels all other false e = e
print_other slots prints starts place width height pixels all other true e =
    let s = stands_pixels width height pixels (slot_at slots place) e in
    absurd (other ((all place s.0 s.1).print ∙ ap print_of s.2))

-- before its home begins, no place has the pixels
pub start_none : (slots : List Slot) (prints starts : List ℕ) (place width height : ℕ) (pixels : List Rgb) → AreEntered slots prints starts
    → place < get_or starts (home_of (print_of pixels)) 0 → (held : Bool) → stands width height pixels (slot_at slots place) ≡ held → stands width height pixels (slot_at slots place) ≡ false
start_none slots prints starts place width height pixels all before false e = e
start_none slots prints starts place width height pixels all before true e =
    let s = stands_pixels width height pixels (slot_at slots place) e in
    let later : get_or starts (home_of (print_of pixels)) 0 ≤ place = subst (λ z. get_or starts (home_of (print_of z)) 0 ≤ place) s.2 (all place s.0 s.1).start in
    absurd (omega arith)

-- as many empty places as are wanted
pub made : (n places : ℕ) (slots : List Slot) → slots ≡ replicate n None → n ≡ places → slots ≡ no_glyphs places
unfolding no_glyphs
made n places slots e same = e ∙ ap (λ z. replicate z None) same

pub length_none : (places : ℕ) (slots : List Slot) → slots ≡ no_glyphs places → length slots ≡ places
unfolding no_glyphs
length_none places slots e = ap length e ∙ length-replicate places None

-- what a read gives, with another default
pub read_other : (slots : List Slot) (prints starts : List ℕ) (place print width height read : ℕ) (pixels : List Rgb) → AreEntered slots prints starts
    → place < length prints → read ≡ get_or prints place read → read ≢ print → print ≡ print_of pixels → false ≡ stands width height pixels (slot_at slots place)
read_other slots prints starts place print width height read pixels all within e other is =
    let same : read ≡ get_or prints place 0 = e ∙ get_or_default prints place read 0 within in
    sym (print_other slots prints starts place width height pixels all (λ f. other (same ∙ (f ∙ sym is))) (stands width height pixels (slot_at slots place)) refl)

pub read_start : (slots : List Slot) (prints starts : List ℕ) (print width height read : ℕ) (pixels : List Rgb) → AreEntered slots prints starts
    → home_of print < length starts → read ≡ get_or starts (home_of print) read → print ≡ print_of pixels
    → (k : ℕ) → k < read → stands width height pixels (slot_at slots k) ≡ false
read_start slots prints starts print width height read pixels all within e is k before =
    let same : read ≡ get_or starts (home_of print) 0 = e ∙ get_or_default starts (home_of print) read 0 within in
    let at : get_or starts (home_of print) 0 ≡ get_or starts (home_of (print_of pixels)) 0 = ap (λ z. get_or starts (home_of z) 0) is in
    start_none slots prints starts k width height pixels all (omega arith) (stands width height pixels (slot_at slots k)) refl

-- what is read at a place is the slot there
pub read_slot : (slots : List Slot) (place : ℕ) (read : Slot) (held : Glyph) → place < length slots → read ≡ get_or slots place read → read ≡ Some held → slot_at slots place ≡ Some held
read_slot slots place read held within e is = sym (get_or_default slots place read None within) ∙ (sym e ∙ is)

pub lower : (starts : List ℕ) (home read place at start : ℕ) → home < length starts → read ≡ get_or starts home read → start ≡ min read place → at ≡ place
    → start ≡ min (get_or starts home 0) at
lower starts home read place at start within e less same =
    less ∙ (ap (λ z. min z place) (e ∙ get_or_default starts home read 0 within) ∙ ap (λ z. min (get_or starts home 0) z) (sym same))

pub read_other_at : (slots : List Slot) (prints starts : List ℕ) (place at print width height read : ℕ) (pixels : List Rgb) → AreEntered slots prints starts
    → place < length prints → read ≡ get_or prints at read → at ≡ place → read ≢ print → print ≡ print_of pixels → false ≡ stands width height pixels (slot_at slots place)
read_other_at slots prints starts place at print width height read pixels all within e same other is =
    read_other slots prints starts place print width height read pixels all within (e ∙ ap (λ z. get_or prints z read) same) other is
