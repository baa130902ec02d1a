-- What passes make is a function of their data.
use Rattle.std.proofs.Common.{◌≡◌, ◌∙◌, ◌⊎◌, inl, inr, ℕ, zero, suc, ◌+◌, ◌^◌, ◌<◌, ◌≤◌, Bool, true, false, ◌&&◌, cond, ℤ, pos, negsuc, neg_ℤ, ◌+ℤ◌, List, [], ◌∷◌, ◌++◌, length, map, take, drop, refl, sym, ap, subst, arith, Result, Ok, Err, Some, None, length-append}
use Rattle.std.specs.Prelude.{slice_index, nat_le}
use Rattle.std.specs.Int.RustNames.{unsigned_abs}
use Rattle.std.specs.List.{All, list_all}
use Rattle.std.proofs.Math.IntN.{+ℤ_idl}
use Rattle.std.proofs.lemmas.Bool.{cases_lt, le-leb, lt-leb}
use Rattle.std.proofs.lemmas.List.{length-drop, length-take-le, map-append, get_or_past}
use Rattle.std.proofs.lemmas.List.Elements.{All-append, All-cons, All-nil}
use Rattle.std.proofs.lemmas.List.Folds.{list_all_at}
use Rattle.gfx_base.specs.declared.refusal.Refusal.{Refusal}
use Rattle.gfx_base.specs.declared.refusal.Refusal.TheVariants.{CoefficientRange, QualityWorse, TransformChanged}
use Rattle.gfx_base.specs.Results.{and_then, check}
use Rattle.gfx_base.specs.Outcome.{Performs}
use Rattle.gfx_bits.specs.Bits.{Spelled, digits, number}
use Rattle.gfx_bits.proofs.Laws.{spelled-apart, number-spelled}
use Rattle.gfx_rlgr.specs.Rlgr.{Rlgr}
use Rattle.gfx_rlgr.specs.Says.{rlgr}
use Rattle.gfx_rlgr.proofs.Says.{says-only as bytes-say}
use Rattle.gfx_srl.specs.Code.{Pair}
use Rattle.gfx_srl.specs.Srl.{Srl, width_of}
use Rattle.gfx_srl.specs.Says.{srl, value_of as pair_value}
use Rattle.gfx_srl.proofs.Says.{says-only as bits-say}
use Rattle.gfx_dwt.specs.declared.layout.Transform.{Transform}
use Rattle.gfx_dwt.specs.declared.layout.Transform.TheVariants.{Plain, Reduced}
use Rattle.gfx_dwt.specs.declared.layout.Band.TheVariants.{Ll3}
use Rattle.gfx_dwt.specs.Place.{start}
use Rattle.gfx_dwt.specs.Ranges.{at}
use Rattle.gfx_quant.specs.Coefficient.{coefficient_of, dequantised, is_coefficient}
use Rattle.gfx_quant.specs.Planes.{Dequantises, LeavesRange}
use Rattle.gfx_quant.specs.Quant.{value_of}
use Rattle.gfx_quant.specs.Setting.{all_below}
use Rattle.gfx_tile_state.specs.declared.shape.PassShape.{PassShape}
use Rattle.gfx_tile_state.specs.declared.state.TileState.{TileState}
use Rattle.gfx_tile_state.specs.Entries.{AreEntries, Coded, Counted, Down, Fits, Nothing, Pass, Up, Way, band_at, coded, pairs_from, raw, raw_from, sum_after, way, way_at}
use Rattle.gfx_tile_state.specs.Making.{are_below, by_place, by_place_from, coded_width, entries_from, entries_of, entry_of, first_part, fits_onto, fitting, may_add, may_upgrade, plane_of, raw_width, sums_of, upgraded_part, widths_from}
use Rattle.gfx_tile_state.specs.Passes.{FirstRefused, LeavesIt, Part, StaysIn, TakesFirst, Upgrades, added, running, summed}
use Rattle.gfx_tile_state.specs.Record.{MayAdd, MayUpgrade, fits_transform}
use Rattle.gfx_tile_state.specs.Shape.{AreBelow, SomeAbove}
use Rattle.gfx_tile_state.specs.Shapes.{positions_of}
use Rattle.gfx_tile_state.proofs.Bands.{band_at-is, ends, lies-at}
use Rattle.gfx_tile_state.proofs.Places.{same-plane}
use Rattle.gfx_tile_state.proofs.Running.{running-length}
use Rattle.gfx_tile_state.proofs.Values.{values-whole}

-- ---- place by place

length-by_place_from : (f : ℕ → ℤ → ℤ) (k : ℕ) (xs : List ℤ) → length (by_place_from f k xs) ≡ length xs
unfolding by_place_from
length-by_place_from f k [] = refl
length-by_place_from f k (x ∷ xs) = ap suc (length-by_place_from f (suc k) xs)

pub length-by_place : (f : ℕ → ℤ → ℤ) (xs : List ℤ) → length (by_place f xs) ≡ length xs
length-by_place f xs = length-by_place_from f 0 xs

at-by_place_from : (f : ℕ → ℤ → ℤ) (k : ℕ) (xs : List ℤ) (i : ℕ) → i < length xs → at (by_place_from f k xs) i ≡ f (k + i) (at xs i)
unfolding by_place_from
at-by_place_from f k [] i h = absurd (omega arith)
at-by_place_from f k (x ∷ xs) zero h = ap (λ j. f j x) {x = k} {y = k + 0} (omega arith)
at-by_place_from f k (x ∷ xs) (suc i) h = at-by_place_from f (suc k) xs i (omega arith) ∙ ap (λ j. f j (at xs i)) {x = suc k + i} {y = k + suc i} (omega arith)

pub at-by_place : (f : ℕ → ℤ → ℤ) (xs : List ℤ) (k : ℕ) → k < length xs → at (by_place f xs) k ≡ f k (at xs k)
at-by_place f xs k h = at-by_place_from f 0 xs k h ∙ ap (λ j. f j (at xs k)) {x = 0 + k} {y = k} (omega arith)

-- a plane of these numbers
pub is-by_place : (f : ℕ → ℤ → ℤ) (xs ys : List ℤ) (n : ℕ) → length xs ≡ n → length ys ≡ n → ((k : ℕ) → k < n → at ys k ≡ f k (at xs k)) → by_place f xs ≡ ys
is-by_place f xs ys n long long' h =
    same-plane (by_place f xs) ys n (length-by_place f xs ∙ long) long' (λ k less. at-by_place f xs k (omega arith) ∙ sym (h k less))

-- ---- the range

both-hold : (a b : Bool) → a ≡ true → b ≡ true → (a && b) ≡ true
both-hold true b e f = f
both-hold false b e f = e

first-fails : (a b : Bool) → a ≡ false → (a && b) ≡ false
first-fails true b e = cc
first-fails false b e = refl

second-fails : (a b : Bool) → b ≡ false → (a && b) ≡ false
second-fails true b e = e
second-fails false b e = refl

each-passes : (test : ℤ → Bool) (xs : List ℤ) → ((k : ℕ) → k < length xs → test (at xs k) ≡ true) → list_all test xs ≡ true
each-passes test [] h = refl
each-passes test (x ∷ xs) h = both-hold (test x) (list_all test xs) (h 0 (omega arith)) (each-passes test xs (λ k less. h (suc k) (omega arith)))

-- a place that both planes have
added-has : (xs ys : List ℤ) (k : ℕ) → k < length (added xs ys) → (at (added xs ys) k ≡ at xs k +ℤ at ys k) × (k < length ys)
unfolding added
added-has [] ys k h = absurd (omega arith)
added-has (x ∷ xs) [] k h = absurd (omega arith)
added-has (x ∷ xs) (y ∷ ys) zero h = (refl, omega arith)
added-has (x ∷ xs) (y ∷ ys) (suc k) h = let rest = added-has xs ys k (omega arith) in (rest.0, omega (arith, rest.1))

added-reaches : (xs ys : List ℤ) (k : ℕ) → k < length xs → k < length ys → k < length (added xs ys)
unfolding added
added-reaches [] ys k h g = absurd (omega arith)
added-reaches (x ∷ xs) [] k h g = absurd (omega arith)
added-reaches (x ∷ xs) (y ∷ ys) zero h g = omega arith
added-reaches (x ∷ xs) (y ∷ ys) (suc k) h g = let rest : k < length (added xs ys) = added-reaches xs ys k (omega arith) (omega arith) in omega arith

pub stays-fits : (kept sums : List ℤ) → length sums ≡ 4096 → StaysIn kept (at sums) → fits_onto kept sums ≡ true
stays-fits kept sums long stays =
    both-hold (list_all is_coefficient sums) (list_all is_coefficient (added kept sums))
    (each-passes is_coefficient sums (λ k h. (stays k (omega arith)).0))
    (each-passes is_coefficient (added kept sums) (λ k h. let has = added-has kept sums k h in ap is_coefficient has.0 ∙ (stays k (omega (arith, has.1))).1))

pub leaves-fits : (kept sums : List ℤ) → length sums ≡ 4096 → LeavesIt kept (at sums) → fits_onto kept sums ≡ false
leaves-fits kept sums long out = by out.2
  where
    k : ℕ
    k = out.0

    inside : k < length sums
    inside = omega (arith, out.1)

    alone : is_coefficient (at sums k) ≡ false → fits_onto kept sums ≡ false
    alone f = first-fails (list_all is_coefficient sums) (list_all is_coefficient (added kept sums)) (list_all_at is_coefficient sums k (pos 0) inside f)

    by : ((is_coefficient (at sums k) ≡ false) ⊎ (is_coefficient (at kept k +ℤ at sums k) ≡ false)) → fits_onto kept sums ≡ false
    by (inl f) = alone f
    by (inr f) = elim (cases_lt k (length kept)) [
      | inl less ↦
          let reaches = added-reaches kept sums k less inside in
          second-fails (list_all is_coefficient sums) (list_all is_coefficient (added kept sums))
          (list_all_at is_coefficient (added kept sums) k (pos 0) reaches (ap is_coefficient (added-has kept sums k reaches).0 ∙ f))
      | inr past ↦ alone (sym (ap is_coefficient (ap (λ z. z +ℤ at sums k) (get_or_past kept k (pos 0) past) ∙ +ℤ_idl (at sums k))) ∙ f)
    ]

pub leaves-alike : (kept : List ℤ) (one other : ℕ → ℤ) → ((k : ℕ) → k < 4096 → one k ≡ other k) → LeavesIt kept one → LeavesIt kept other
leaves-alike kept one other same out = (out.0, out.1, by out.2)
  where
    here : one out.0 ≡ other out.0
    here = same out.0 out.1

    by : ((is_coefficient (one out.0) ≡ false) ⊎ (is_coefficient (at kept out.0 +ℤ one out.0) ≡ false)) → (is_coefficient (other out.0) ≡ false) ⊎ (is_coefficient (at kept out.0 +ℤ other out.0) ≡ false)
    by (inl f) = inl (sym (ap is_coefficient here) ∙ f)
    by (inr f) = inr (sym (ap (λ z. is_coefficient (at kept out.0 +ℤ z)) here) ∙ f)

-- a component in the range, or outside
fitting-ok : (part : Part) → fits_onto part.kept part.sums ≡ true → fitting part ≡ Ok part
unfolding fitting and_then
fitting-ok part e = ap (λ b. and_then (check CoefficientRange b) (λ _. Ok part)) e

fitting-err : (part : Part) → fits_onto part.kept part.sums ≡ false → fitting part ≡ Err CoefficientRange
unfolding fitting and_then
fitting-err part e = ap (λ b. and_then (check CoefficientRange b) (λ _. Ok part)) e

pub part-is : (kept sums : List ℤ) (positions : List ℕ) (new : Part) → sums ≡ new.sums → new.kept ≡ kept → new.positions ≡ positions → length new.sums ≡ 4096 → StaysIn kept (at new.sums)
    → fitting (record { kept = kept; sums = sums; positions = positions }) ≡ Ok new
part-is kept sums positions new same on place long stays =
    fitting-ok (record { kept = kept; sums = sums; positions = positions }) (ap (fits_onto kept) same ∙ stays-fits kept new.sums long stays)
    ∙ λ i. Ok (record { kept = sym on i; sums = same i; positions = sym place i })

pub part-leaves : (kept sums : List ℤ) (positions : List ℕ) → length sums ≡ 4096 → LeavesIt kept (at sums) → fitting (record { kept = kept; sums = sums; positions = positions }) ≡ Err CoefficientRange
part-leaves kept sums positions long out = fitting-err (record { kept = kept; sums = sums; positions = positions }) (leaves-fits kept sums long out)

-- ---- first passes

low-start : (t : Transform) → start t Ll3 ≤ 4096
low-start Plain = omega arith
low-start Reduced = omega arith

cut-whole : (from : ℕ) (values : List ℤ) → from ≤ 4096 → length values ≡ 4096 → length (take from values ++ running (pos 0) (drop from values)) ≡ 4096
cut-whole from values small long =
    length-append (take from values) (running (pos 0) (drop from values))
    ∙ omega (arith, length-take-le from values (omega arith), running-length (pos 0) (drop from values), length-drop from values)

pub summed-whole : (t : Transform) (values : List ℤ) → length values ≡ 4096 → length (summed t values) ≡ 4096
summed-whole t values long = cut-whole (start t Ll3) values (low-start t) long

coefficient-there : (v c : ℤ) (position : ℕ) → dequantised v position ≡ Some c → c ≡ coefficient_of v position
coefficient-there v c position e = go (is_coefficient (coefficient_of v position)) e
  where
    go : (b : Bool) → cond b (Some (coefficient_of v position)) None ≡ Some c → c ≡ coefficient_of v position
    go true same = cc
    go false same = cc

none-there : (v : ℤ) (position : ℕ) → dequantised v position ≡ None → is_coefficient (coefficient_of v position) ≡ false
none-there v position e = go (is_coefficient (coefficient_of v position)) refl e
  where
    go : (b : Bool) → is_coefficient (coefficient_of v position) ≡ b → cond b (Some (coefficient_of v position)) None ≡ None → is_coefficient (coefficient_of v position) ≡ false
    go true is same = cc
    go false is same = is

-- the coefficients that stand are those of the values
dequantised-there : (t : Transform) (positions : List ℕ) (values sums : List ℤ) → Dequantises t positions values sums → (k : ℕ) → k < 4096
    → at sums k ≡ coefficient_of (at values k) (value_of positions (band_at t k))
dequantised-there t positions values sums done k h = coefficient-there (at values k) (at sums k) (value_of positions (band_at t k)) (done (band_at t k) k (lies-at t k h))

-- a step that was taken
taken : {A B : Type 0} (r : Result A Refusal) (x : A) (f : A → Result B Refusal) → Ok x ≡ r → and_then r f ≡ f x
unfolding and_then
taken r x f e = ap (λ s. and_then s f) (sym e)

refused : {A B : Type 0} (r : Result A Refusal) (refusal : Refusal) (f : A → Result B Refusal) → Err refusal ≡ r → and_then r f ≡ Err refusal
unfolding and_then
refused r refusal f e = ap (λ s. and_then s f) (sym e)

-- a first pass whose data say these values, or nothing
first-of : (t : Transform) (positions bytes : List ℕ) (kept values : List ℤ) → Ok values ≡ rlgr bytes
    → first_part t positions bytes kept ≡ fitting (record { kept = kept; sums = plane_of t positions (summed t values); positions = positions })
unfolding first_part
first-of t positions bytes kept values e = taken (rlgr bytes) values _ e

first-none : (t : Transform) (positions bytes : List ℕ) (kept : List ℤ) → Err CoefficientRange ≡ rlgr bytes → first_part t positions bytes kept ≡ Err CoefficientRange
unfolding first_part
first-none t positions bytes kept e = refused (rlgr bytes) CoefficientRange _ e

pub first-is : (result : Result (Unit {0}) Refusal) (t : Transform) (positions bytes : List ℕ) (kept : List ℤ) (old new : Part)
    → TakesFirst result t positions bytes kept old new → Performs result old new (first_part t positions bytes kept)
first-is (Ok done) t positions bytes kept old new took =
    let values : List ℤ = summed t took.0 in
    let long : length values ≡ 4096 = summed-whole t took.0 (values-whole bytes took.0 took.1) in
    first-of t positions bytes kept took.0 (bytes-say bytes (Ok took.0) took.1)
    ∙ part-is kept (plane_of t positions values) positions new
    (is-by_place (λ k value. coefficient_of value (value_of positions (band_at t k))) values new.sums 4096 long took.5 (dequantised-there t positions values new.sums took.2))
    took.3 took.4 took.5 took.6
first-is (Err refusal) t positions bytes kept old new took = (by took.1 ∙ ap Err (sym took.0), took.2)
  where
    plane : List ℤ → List ℤ
    plane values = plane_of t positions (summed t values)

    whole : (values : List ℤ) → Rlgr bytes (Ok values) → length (summed t values) ≡ 4096
    whole values read = summed-whole t values (values-whole bytes values read)

    there : (values : List ℤ) → Rlgr bytes (Ok values) → (k : ℕ) → k < 4096 → at (plane values) k ≡ coefficient_of (at (summed t values) k) (value_of positions (band_at t k))
    there values read k h = at-by_place (λ k value. coefficient_of value (value_of positions (band_at t k))) (summed t values) k (omega (arith, whole values read))

    lacks : (values : List ℤ) → Rlgr bytes (Ok values) → LeavesRange t positions (summed t values) → LeavesIt kept (at (plane values))
    lacks values read (band, (k, (lies, none))) =
        let inside : k < 4096 = omega (arith, lies.1, ends t band) in (
          k,
          inside,
          inl
              (ap is_coefficient (there values read k inside ∙ ap (λ b. coefficient_of (at (summed t values) k) (value_of positions b)) (band_at-is t band k lies))
              ∙ none-there (at (summed t values) k) (value_of positions band) none),
        )

    leaves : (values : List ℤ) → Rlgr bytes (Ok values) → (LeavesRange t positions (summed t values) ⊎ ((sums : List ℤ) × Dequantises t positions (summed t values) sums × LeavesIt kept (at sums)))
        → LeavesIt kept (at (plane values))
    leaves values read (inl out) = lacks values read out
    leaves values read (inr out) =
        leaves-alike kept (at out.0) (at (plane values)) (λ k h. dequantised-there t positions (summed t values) out.0 out.1 k h ∙ sym (there values read k h)) out.2

    by : FirstRefused t positions bytes kept → first_part t positions bytes kept ≡ Err CoefficientRange
    by (inl bad) = first-none t positions bytes kept (bytes-say bytes (Err CoefficientRange) bad)
    by (inr (values, read, out)) =
        first-of t positions bytes kept values (bytes-say bytes (Ok values) read)
        ∙ part-leaves kept (plane values) positions (length-by_place _ (summed t values) ∙ whole values read) (leaves values read out)

-- ---- upgrades

coded-is : (w : Way) (n : ℕ) (x : ℤ) → map width_of (coded w n x) ≡ coded_width w n
coded-is Nothing n x = refl
coded-is Counted n x = refl
coded-is Up n x = refl
coded-is Down n x = refl
coded-is Coded n x = refl

-- the widths of the coded values don't hang on the entries
widths-are : (pass : Pass) (k : ℕ) (xs : List ℤ) → map width_of (pairs_from pass k xs) ≡ widths_from pass k (length xs)
unfolding pairs_from widths_from
widths-are pass k [] = refl
widths-are pass k (x ∷ xs) =
    map-append width_of (coded (way_at pass k) (pass.falls k) x) (pairs_from pass (suc k) xs)
    ∙ ap (λ l. l ++ map width_of (pairs_from pass (suc k) xs)) (coded-is (way_at pass k) (pass.falls k) x)
    ∙ ap (λ l. coded_width (way_at pass k) (pass.falls k) ++ l) (widths-are pass (suc k) xs)

-- a value that is coded has a width
coded-some : (fall : ℕ) (low : Bool) (sum : ℤ) → All (λ width. 0 < width) (coded_width (way fall low sum) fall)
coded-some zero low sum = All-nil (λ width. 0 < width)
coded-some (suc n) true sum = All-nil (λ width. 0 < width)
coded-some (suc n) false (pos zero) = All-cons (λ width. 0 < width) (suc n) [] (omega arith) (All-nil (λ width. 0 < width))
coded-some (suc n) false (pos (suc m)) = All-nil (λ width. 0 < width)
coded-some (suc n) false (negsuc m) = All-nil (λ width. 0 < width)

pub widths-some : (pass : Pass) (k n : ℕ) → All (λ width. 0 < width) (widths_from pass k n)
unfolding widths_from
widths-some pass k zero = All-nil (λ width. 0 < width)
widths-some pass k (suc n) =
    All-append (λ width. 0 < width) (coded_width (way_at pass k) (pass.falls k)) (widths_from pass (suc k) n) (coded-some (pass.falls k) (pass.low k) (at pass.sums k)) (widths-some pass (suc k) n)

-- a number at the front of the bits
number-there : (n value : ℕ) (bits rest more : List Bool) → value < 2 ^ n → Spelled bits (digits n value ++ rest) more → (value ≡ number n bits) × Spelled (drop n bits) rest more
number-there n value bits rest more small p =
    let parts = spelled-apart bits (digits n value) rest more p in
    let front = number-spelled n value bits parts.0 small parts.1 in
    (sym front.0, subst (λ m. Spelled m rest more) front.1 parts.2)

-- the first entry, and what is behind it
entry-is : (w : Way) (n : ℕ) (x : ℤ) (pairs : List Pair) (values : List ℤ) (rest bits more : List Bool) → Fits w n x → map pair_value (coded w n x ++ pairs) ≡ values → Spelled bits (raw w n x ++ rest) more
    → (x ≡ entry_of w n values bits) × ((map pair_value pairs ≡ drop (length (coded_width w n)) values) × Spelled (drop (raw_width w n) bits) rest more)
entry-is Nothing n x pairs values rest bits more fits e p = (fits, (e, p))
entry-is Counted n x pairs values rest bits more fits e p =
    let front = number-there n (unsigned_abs x) bits rest more fits.1 p in
    (fits.0 ∙ ap (λ m. pos m) front.0, (e, front.1))
entry-is Up n x pairs values rest bits more fits e p =
    let front = number-there n (unsigned_abs x) bits rest more fits.1 p in
    (fits.0 ∙ ap (λ m. pos m) front.0, (e, front.1))
entry-is Down n x pairs values rest bits more fits e p =
    let front = number-there n (unsigned_abs x) bits rest more fits.1 p in
    (fits.0 ∙ ap (λ m. neg_ℤ (pos m)) front.0, (e, front.1))
entry-is Coded n x pairs values rest bits more fits e p = (ap (λ l. at l 0) e, (ap (drop 1) e, p))

entries-there : (pass : Pass) (k : ℕ) (xs values : List ℤ) (bits more : List Bool) → ((i : ℕ) → i < length xs → Fits (way_at pass (k + i)) (pass.falls (k + i)) (at xs i))
    → map pair_value (pairs_from pass k xs) ≡ values → Spelled bits (raw_from pass k xs) more → xs ≡ entries_from pass k (length xs) values bits
unfolding pairs_from raw_from entries_from
entries-there pass k [] values bits more fits e p = refl
entries-there pass k (x ∷ xs) values bits more fits e p =
    let here : k + 0 ≡ k = omega arith in
    let head =
    entry-is (way_at pass k) (pass.falls k) x (pairs_from pass (suc k) xs) values (raw_from pass (suc k) xs) bits more
    (subst (λ j. Fits (way_at pass j) (pass.falls j) x) here (fits 0 (omega arith))) e p in
    let rest : xs ≡ entries_from pass (suc k) (length xs) (drop (length (coded_width (way_at pass k) (pass.falls k))) values) (drop (raw_width (way_at pass k) (pass.falls k)) bits) =
    entries-there pass (suc k) xs _ _ more
    (λ i h. subst (λ j. Fits (way_at pass j) (pass.falls j) (at xs i)) {x = k + suc i} {y = suc k + i} (omega arith) (fits (suc i) (omega arith)))
    head.1.0 head.1.1 in
    λ i. head.0 i ∷ rest i

entries-within : (pass : Pass) (n : ℕ) (entries : List ℤ) (more : List Bool) → length entries ≡ n → Srl pass.srl (pairs_from pass 0 entries) → Spelled pass.bits (raw_from pass 0 entries) more
    → ((k : ℕ) → k < n → Fits (way_at pass k) (pass.falls k) (at entries k)) → entries ≡ entries_from pass 0 n (srl pass.srl (widths_from pass 0 n)) pass.bits
entries-within pass n entries more long pairs numbers fit =
    entries-there pass 0 entries (srl pass.srl (widths_from pass 0 n)) pass.bits more
    (λ i h. subst (λ j. Fits (way_at pass j) (pass.falls j) (at entries i)) {x = i} {y = 0 + i} (omega arith) (fit i (omega arith)))
    (bits-say pass.srl (widths_from pass 0 n) (pairs_from pass 0 entries) (widths-some pass 0 n) (widths-are pass 0 entries ∙ ap (widths_from pass 0) long) pairs)
    numbers
    ∙ ap (λ m. entries_from pass 0 m (srl pass.srl (widths_from pass 0 n)) pass.bits) long

pub entries-are-due : (pass : Pass) (entries : List ℤ) → AreEntries pass entries → entries ≡ entries_of pass
unfolding entries_of
entries-are-due pass entries are = entries-within pass 4096 entries are.numbers.0 are.all are.pairs are.numbers.1 are.fit

-- the sums of some entries
sums-there : (pass : Pass) (entries : List ℤ) (k : ℕ) → AreEntries pass entries → k < 4096 → at (sums_of pass (entries_of pass)) k ≡ sum_after pass entries k
sums-there pass entries k are h =
    ap (λ l. at (sums_of pass l) k) (sym (entries-are-due pass entries are))
    ∙ at-by_place (λ k entry. at pass.sums k +ℤ coefficient_of entry (pass.positions k)) entries k (omega (arith, are.all))

sums-whole : (pass : Pass) (entries : List ℤ) → AreEntries pass entries → length (sums_of pass (entries_of pass)) ≡ 4096
sums-whole pass entries are =
    length-by_place (λ k entry. at pass.sums k +ℤ coefficient_of entry (pass.positions k)) (entries_of pass) ∙ ap length (sym (entries-are-due pass entries are)) ∙ are.all

pub upgrade-is : (result : Result (Unit {0}) Refusal) (pass : Pass) (positions : List ℕ) (old new : Part)
    → Upgrades result pass positions old new → Performs result old new (upgraded_part pass positions old)
unfolding upgraded_part
upgrade-is (Ok done) pass positions old new took =
    part-is old.kept (sums_of pass (entries_of pass)) positions new
    (same-plane (sums_of pass (entries_of pass)) new.sums 4096 (sums-whole pass took.0 took.1) took.5 (λ k h. sums-there pass took.0 k took.1 h ∙ sym (took.2 k h)))
    took.3 took.4 took.5 took.6
upgrade-is (Err refusal) pass positions old new took =
    let entries : List ℤ = took.1.0 in (
      part-leaves old.kept (sums_of pass (entries_of pass)) positions (sums-whole pass entries took.1.1)
          (leaves-alike old.kept (sum_after pass entries) (at (sums_of pass (entries_of pass))) (λ k h. sym (sums-there pass entries k took.1.1 h)) took.1.2)
          ∙ ap Err (sym took.0),
      took.2,
    )

-- ---- whether a pass may follow

pub adds-is : (result : Result (Unit {0}) Refusal) (tile : TileState) (t : Transform) → MayAdd result tile t → result ≡ may_add tile t
adds-is (Ok done) tile t same = sym (ap (check TransformChanged) same)
adds-is (Err refusal) tile t (is, apart) = ap Err is ∙ sym (ap (check TransformChanged) apart)

all-pass : (n : ℕ) (test : ℕ → Bool) → ((k : ℕ) → k < n → test k ≡ true) → all_below n test ≡ true
unfolding all_below
all-pass zero test h = refl
all-pass (suc n) test h = both-hold (all_below n test) (test n) (all-pass n test (λ k less. h k (omega arith))) (h n (omega arith))

one-fails : (n : ℕ) (test : ℕ → Bool) (k : ℕ) → k < n → test k ≡ false → all_below n test ≡ false
unfolding all_below
one-fails zero test k h e = absurd (omega arith)
one-fails (suc n) test k h e = elim (cases_lt k n) [
  | inl less ↦ first-fails (all_below n test) (test n) (one-fails n test k less e)
  | inr on ↦ second-fails (all_below n test) (test n) (ap test {x = n} {y = k} (omega arith) ∙ e)
]

below-there : (low high : List ℕ) → AreBelow low high → are_below low high ≡ true
below-there low high below = all-pass 10 (λ k. nat_le (slice_index low k) (slice_index high k)) (λ k h. le-leb (slice_index low k) (slice_index high k) (below k h))

above-there : (low high : List ℕ) → SomeAbove low high → are_below low high ≡ false
above-there low high (k, h, above) = one-fails 10 (λ k. nat_le (slice_index low k) (slice_index high k)) k h (lt-leb (slice_index low k) (slice_index high k) above)

-- the two tests of an upgrade
tested : Bool → Bool → Result (Unit {0}) Refusal
tested same below = and_then (check TransformChanged same) (λ _. check QualityWorse below)

both-pass : (same below : Bool) (done : Unit {0}) → same ≡ true → below ≡ true → Ok done ≡ tested same below
unfolding and_then tested
both-pass true true done e f = refl
both-pass true false done e f = cc
both-pass false below done e f = cc

transform-fails : (same below : Bool) (refusal : Refusal) → refusal ≡ TransformChanged → same ≡ false → Err refusal ≡ tested same below
unfolding and_then tested
transform-fails true below refusal is e = cc
transform-fails false below refusal is e = ap Err is

quality-fails : (same below : Bool) (refusal : Refusal) → refusal ≡ QualityWorse → same ≡ true → below ≡ false → Err refusal ≡ tested same below
unfolding and_then tested
quality-fails true true refusal is e f = cc
quality-fails true false refusal is e f = ap Err is
quality-fails false below refusal is e f = cc

three-hold : (a b c : Bool) → a ≡ true → b ≡ true → c ≡ true → (a && b && c) ≡ true
three-hold true true true e f g = refl
three-hold true true false e f g = cc
three-hold true false c e f g = cc
three-hold false b c e f g = cc

three-fail : (a b c : Bool) → (a ≡ false) ⊎ ((b ≡ false) ⊎ (c ≡ false)) → (a && b && c) ≡ false
three-fail false b c out = refl
three-fail true false c out = refl
three-fail true true false out = refl
three-fail true true true (inl e) = cc
three-fail true true true (inr (inl e)) = cc
three-fail true true true (inr (inr e)) = cc

some-rises : (tile : TileState) (shape : PassShape) → SomeAbove shape.y tile.y.positions ⊎ (SomeAbove shape.cb tile.cb.positions ⊎ SomeAbove shape.cr tile.cr.positions)
    → (are_below shape.y tile.y.positions ≡ false) ⊎ ((are_below shape.cb tile.cb.positions ≡ false) ⊎ (are_below shape.cr tile.cr.positions ≡ false))
some-rises tile shape (inl y) = inl (above-there shape.y tile.y.positions y)
some-rises tile shape (inr (inl cb)) = inr (inl (above-there shape.cb tile.cb.positions cb))
some-rises tile shape (inr (inr cr)) = inr (inr (above-there shape.cr tile.cr.positions cr))

-- the answer by the four tests
answer-of : Bool → Bool → Bool → Bool → Result (Unit {0}) Refusal
answer-of same y cb cr = tested same (y && cb && cr)

may-be : (same y cb cr : Bool) (done : Unit {0}) → same ≡ true → y ≡ true → cb ≡ true → cr ≡ true → Ok done ≡ answer-of same y cb cr
unfolding answer-of
may-be same y cb cr done e f g h = both-pass same (y && cb && cr) done e (three-hold y cb cr f g h)

may-not : (same y cb cr : Bool) (refusal : Refusal) → refusal ≡ QualityWorse → same ≡ true → (y ≡ false) ⊎ ((cb ≡ false) ⊎ (cr ≡ false)) → Err refusal ≡ answer-of same y cb cr
unfolding answer-of
may-not same y cb cr refusal is e out = quality-fails same (y && cb && cr) refusal is e (three-fail y cb cr out)

pub upgrades-is : (result : Result (Unit {0}) Refusal) (tile : TileState) (shape : PassShape) → MayUpgrade result tile shape → result ≡ may_upgrade tile shape.transform (positions_of shape)
unfolding may_upgrade answer-of tested
upgrades-is (Ok done) tile shape may =
    may-be (fits_transform tile.transform shape.transform) (are_below shape.y tile.y.positions) (are_below shape.cb tile.cb.positions) (are_below shape.cr tile.cr.positions) done may.same
    (below-there shape.y tile.y.positions may.y_falls) (below-there shape.cb tile.cb.positions may.cb_falls) (below-there shape.cr tile.cr.positions may.cr_falls)
upgrades-is (Err refusal) tile shape (inl (is, apart)) =
    transform-fails (fits_transform tile.transform shape.transform) (are_below shape.y tile.y.positions && are_below shape.cb tile.cb.positions && are_below shape.cr tile.cr.positions) refusal is apart
upgrades-is (Err refusal) tile shape (inr (is, same, above)) =
    may-not (fits_transform tile.transform shape.transform) (are_below shape.y tile.y.positions) (are_below shape.cb tile.cb.positions) (are_below shape.cr tile.cr.positions) refusal is same (some-rises tile shape above)
