-- What passes make of a component's record.
use Rattle.std.proofs.Common.{◌≡◌, ◌∙◌, ◌⊎◌, inl, inr, ℕ, zero, suc, ◌+◌, ◌<◌, ◌≤◌, Bool, true, false, ℤ, pos, ◌+ℤ◌, ◌-ℤ◌, List, [], ◌∷◌, ◌++◌, length, take, drop, refl, sym, ap, subst, arith, Result, Ok, Err, Some, None}
use Rattle.std.specs.Prelude.{IsOk}
use Rattle.std.proofs.lemmas.List.{length-take-le}
use Rattle.std.proofs.lemmas.Int.{ints}
use Rattle.gfx_base.specs.declared.refusal.Refusal.{Refusal}
use Rattle.gfx_rlgr.specs.Rlgr.{Rlgr}
use Rattle.gfx_rlgr.proofs.Unique.{one-meaning}
use Rattle.gfx_dwt.specs.declared.layout.Transform.{Transform}
use Rattle.gfx_dwt.specs.declared.layout.Transform.TheVariants.{Plain, Reduced}
use Rattle.gfx_dwt.specs.declared.layout.Band.{Band}
use Rattle.gfx_dwt.specs.declared.layout.Band.TheVariants.{Hl1, Lh1, Hh1, Hl2, Lh2, Hh2, Hl3, Lh3, Hh3, Ll3}
use Rattle.gfx_dwt.specs.Place.{LiesIn, start}
use Rattle.gfx_dwt.specs.Ranges.{at}
use Rattle.gfx_quant.specs.Coefficient.{coefficient_of, dequantised, is_coefficient, truncated}
use Rattle.gfx_quant.specs.Planes.{Dequantises, LeavesRange}
use Rattle.gfx_quant.specs.Quant.{value_of}
use Rattle.gfx_tile_state.specs.Entries.{AreEntries, band_at, pass_of, sum_after}
use Rattle.gfx_tile_state.specs.Passes.{FirstRefused, LeavesIt, Part, TakesFirst, Upgrades, running, summed}
use Rattle.gfx_tile_state.proofs.Bands.{band_at-is, ends, lies-at}
use Rattle.gfx_tile_state.proofs.OneReading.{one-reading}
use Rattle.gfx_tile_make.specs.Planes.{differences}
use Rattle.gfx_tile_make.specs.Source.{Planes, sent}
use Rattle.gfx_tile_make.specs.Levels.{StaysWithin, first_values, positions_at, record_by, summed_at, truncated_plane}
use Rattle.gfx_tile_make.specs.Upgrade.{entries_of, gained}
use Rattle.gfx_tile_make.proofs.ByBand.{at-by_band, is-by_band, length-by_band}
use Rattle.gfx_tile_make.proofs.Gains.{sums-go-on}

-- the position of a band
pub position-of : (base level : List ℕ) (band : Band) → value_of (positions_at base level) band ≡ value_of base band + value_of level band
position-of base level Hl1 = refl
position-of base level Lh1 = refl
position-of base level Hh1 = refl
position-of base level Hl2 = refl
position-of base level Lh2 = refl
position-of base level Hh2 = refl
position-of base level Hl3 = refl
position-of base level Lh3 = refl
position-of base level Hh3 = refl
position-of base level Ll3 = refl

-- ---- differences

plus-minus : (last x : ℤ) → last +ℤ (x -ℤ last) ≡ x
plus-minus last x = omega (arith, ints)

running-differences : (last : ℤ) (xs : List ℤ) → running last (differences last xs) ≡ xs
unfolding running differences
running-differences last [] = refl
running-differences last (x ∷ xs) = λ i. plus-minus last x i ∷ (ap (λ z. running z (differences x xs)) (plus-minus last x) ∙ running-differences x xs) i

take-front : (xs ys : List ℤ) (n : ℕ) → length xs ≡ n → (take n (xs ++ ys) ≡ xs) × (drop n (xs ++ ys) ≡ ys)
take-front [] ys zero e = (refl, refl)
take-front [] ys (suc n) e = absurd (omega arith)
take-front (x ∷ xs) ys zero e = absurd (omega arith)
take-front (x ∷ xs) ys (suc n) e = let rest = take-front xs ys n (omega arith) in (ap (λ l. x ∷ l) rest.0, rest.1)

take-drop : (n : ℕ) (xs : List ℤ) → take n xs ++ drop n xs ≡ xs
take-drop zero xs = refl
take-drop (suc n) [] = refl
take-drop (suc n) (x ∷ xs) = ap (λ l. x ∷ l) (take-drop n xs)

low-start : (t : Transform) → start t Ll3 ≤ 4096
low-start Plain = omega arith
low-start Reduced = omega arith

-- values are read as they were
pub summed-first : (t : Transform) (values : List ℤ) → length values ≡ 4096 → summed t (first_values t values) ≡ values
summed-first t values long =
    let front = take-front (take (start t Ll3) values) (differences (pos 0) (drop (start t Ll3) values)) (start t Ll3) (length-take-le (start t Ll3) values (omega (arith, low-start t))) in
    ap (λ l. l ++ running (pos 0) (drop (start t Ll3) (first_values t values))) front.0
    ∙ ap (λ l. take (start t Ll3) values ++ running (pos 0) l) front.1
    ∙ ap (λ l. take (start t Ll3) values ++ l) (running-differences (pos 0) (drop (start t Ll3) values))
    ∙ take-drop (start t Ll3) values

-- ---- a first pass

is-some : (v : ℤ) (s : ℕ) → is_coefficient (coefficient_of v s) ≡ true → dequantised v s ≡ Some (coefficient_of v s)
is-some v s e = rw e refl

-- a sum of a record
sum-is : (t : Transform) (base level : List ℕ) (planes : Planes) (k : ℕ) → length (sent planes) ≡ 4096 → k < 4096 → at (record_by t base level planes).sums k ≡ summed_at base level (band_at t k) (at (sent planes) k)
sum-is t base level planes k long h = at-by_band t (summed_at base level) (sent planes) k (omega arith)

-- the coefficient of a value of a level is its sum
value-is : (t : Transform) (base level : List ℕ) (planes : Planes) (band : Band) (k : ℕ) → length (sent planes) ≡ 4096 → k < 4096 → LiesIn t band k
    → coefficient_of (at (truncated_plane t level (sent planes)) k) (value_of (positions_at base level) band) ≡ at (record_by t base level planes).sums k
value-is t base level planes band k long h lies =
    ap (λ s. coefficient_of (at (truncated_plane t level (sent planes)) k) s) (position-of base level band)
    ∙ ap (λ v. coefficient_of v (value_of base band + value_of level band)) (at-by_band t (λ band v. truncated band v (value_of level band)) (sent planes) k (omega arith))
    ∙ ap (λ b. coefficient_of (truncated (band_at t k) (at (sent planes) k) (value_of level (band_at t k))) (value_of base b + value_of level b)) (sym (band_at-is t band k lies))
    ∙ sym (sum-is t base level planes k long h)

inside : (t : Transform) (band : Band) (k : ℕ) → LiesIn t band k → k < 4096
inside t band k lies = omega (arith, lies.1, ends t band)

-- all values of the level have coefficients
pub values-have : (t : Transform) (base level : List ℕ) (planes : Planes) (band : Band) (k : ℕ) → length (sent planes) ≡ 4096 → StaysWithin (record_by t base level planes) → LiesIn t band k
    → dequantised (at (truncated_plane t level (sent planes)) k) (value_of (positions_at base level) band) ≡ Some (at (record_by t base level planes).sums k)
values-have t base level planes band k long stays lies =
    let h : k < 4096 = inside t band k lies in
    let is = value-is t base level planes band k long h lies in
    is-some (at (truncated_plane t level (sent planes)) k) (value_of (positions_at base level) band) (ap is_coefficient is ∙ (stays k h).0) ∙ ap (λ z. Some z) is

same-some : (x y : ℤ) → Some x ≡ Some y → x ≡ y
same-some x y e = cc

-- what is dequantised is the record's sums
sums-of : (t : Transform) (base level : List ℕ) (planes : Planes) (sums : List ℤ) (k : ℕ) → length (sent planes) ≡ 4096 → StaysWithin (record_by t base level planes)
    → Dequantises t (positions_at base level) (truncated_plane t level (sent planes)) sums → k < 4096 → at sums k ≡ at (record_by t base level planes).sums k
sums-of t base level planes sums k long stays done h =
    let lies = lies-at t k h in
    same-some _ _ (sym (done (band_at t k) k lies) ∙ values-have t base level planes (band_at t k) k long stays lies)

-- a record isn't refused
not-both : (b : Bool) → b ≡ true → b ≡ false → ⊥
not-both true e f = cc
not-both false e f = cc

stays-not : (part : Part) (kept : List ℤ) (sum : ℕ → ℤ) → StaysWithin part → kept ≡ part.kept → ((k : ℕ) → k < 4096 → sum k ≡ at part.sums k) → LeavesIt kept sum → ⊥
stays-not part kept sum stays e same out = by out.2
  where
    h : out.0 < 4096
    h = out.1

    by : ((is_coefficient (sum out.0) ≡ false) ⊎ (is_coefficient (at kept out.0 +ℤ sum out.0) ≡ false)) → ⊥
    by (inl f) = not-both _ (stays out.0 h).0 (ap is_coefficient (sym (same out.0 h)) ∙ f)
    by (inr f) = not-both _ (stays out.0 h).1 (ap (λ l. is_coefficient (at l out.0 +ℤ at part.sums out.0)) (sym e) ∙ ap (λ z. is_coefficient (at kept out.0 +ℤ z)) (sym (same out.0 h)) ∙ f)

record-is : (t : Transform) (base level : List ℕ) (planes : Planes) (new : Part) → length (sent planes) ≡ 4096 → length new.sums ≡ 4096 → new.kept ≡ (record_by t base level planes).kept
    → new.positions ≡ positions_at base level → ((k : ℕ) → k < 4096 → at new.sums k ≡ at (record_by t base level planes).sums k) → new ≡ record_by t base level planes
record-is t base level planes new long whole kept positions sums =
    let same = is-by_band t (summed_at base level) (sent planes) new.sums long whole (λ k h. sums k h ∙ sum-is t base level planes k long h) in
    λ i. record { kept = kept i; sums = same i; positions = positions i }

same-values : (bytes : List ℕ) (one other : List ℤ) → Rlgr bytes (Ok one) → Rlgr bytes (Ok other) → one ≡ other
same-values bytes one other p q = let e : Ok one ≡ Ok other = one-meaning bytes (Ok one) (Ok other) p q in cc

not-refused : (bytes : List ℕ) (one : List ℤ) (refusal : Refusal) → Rlgr bytes (Ok one) → Rlgr bytes (Err refusal) → ⊥
not-refused bytes one refusal p q = let e : ◌≡◌ {A = Result (List ℤ) Refusal} (Ok one) (Err refusal) = one-meaning bytes (Ok one) (Err refusal) p q in cc

none-some : (x : ℤ) → None ≡ Some x → ⊥
none-some x e = cc

pub first-record : (result : Result (Unit {0}) Refusal) (t : Transform) (base level positions bytes : List ℕ) (kept : List ℤ) (planes : Planes) (old new : Part)
    → length (sent planes) ≡ 4096 → StaysWithin (record_by t base level planes) → Rlgr bytes (Ok (first_values t (truncated_plane t level (sent planes))))
    → positions ≡ positions_at base level → kept ≡ (record_by t base level planes).kept → TakesFirst result t positions bytes kept old new
    → IsOk result × (new ≡ record_by t base level planes)
first-record (Ok done) t base level positions bytes kept planes old new long stays code place due took =
    let values : List ℤ = truncated_plane t level (sent planes) in
    let read : summed t took.0 ≡ values = ap (summed t) (same-values bytes took.0 (first_values t values) took.1 code) ∙ summed-first t values (length-by_band t (λ band v. truncated band v (value_of level band)) (sent planes) ∙ long) in
    let sums : Dequantises t (positions_at base level) values new.sums = subst (λ p. Dequantises t p values new.sums) place (subst (λ l. Dequantises t positions l new.sums) read took.2) in
    (refl, record-is t base level planes new long took.5 (took.3 ∙ due) (took.4 ∙ place) (λ k h. sums-of t base level planes new.sums k long stays sums h))
first-record (Err refusal) t base level positions bytes kept planes old new long stays code place due took = absurd (by took.1)
  where
    values : List ℤ
    values = truncated_plane t level (sent planes)

    reads : (others : List ℤ) → Rlgr bytes (Ok others) → summed t others ≡ values
    reads others read = ap (summed t) (same-values bytes others (first_values t values) read code) ∙ summed-first t values (length-by_band t (λ band v. truncated band v (value_of level band)) (sent planes) ∙ long)

    lacks : LeavesRange t (positions_at base level) values → ⊥
    lacks out = none-some _ (sym out.1.1.1 ∙ values-have t base level planes out.0 out.1.0 long stays out.1.1.0)

    inner : (others : List ℤ) → Rlgr bytes (Ok others) → (LeavesRange t positions (summed t others) ⊎ ((sums : List ℤ) × Dequantises t positions (summed t others) sums × LeavesIt kept (at sums))) → ⊥
    inner others read (inl out) = lacks (subst (λ p. LeavesRange t p values) place (subst (λ l. LeavesRange t positions l) (reads others read) out))
    inner others read (inr out) =
        let sums : Dequantises t (positions_at base level) values out.0 = subst (λ p. Dequantises t p values out.0) place (subst (λ l. Dequantises t positions l out.0) (reads others read) out.1) in
        stays-not (record_by t base level planes) kept (at out.0) stays due (λ k h. sums-of t base level planes out.0 k long stays sums h) out.2

    by : FirstRefused t positions bytes kept → ⊥
    by (inl bad) = not-refused bytes _ _ code bad
    by (inr rest) = inner rest.0 rest.1 rest.2

-- ---- an upgrade

entry-is : (t : Transform) (before behind : List ℕ) (values : List ℤ) (k : ℕ) → k < length values → at (entries_of t before behind values) k ≡ gained (band_at t k) (at values k) (value_of before (band_at t k)) (value_of behind (band_at t k))
entry-is t before behind values k h = at-by_band t (λ band v. gained band v (value_of before band) (value_of behind band)) values k h

-- the sum of a place after the pass
pub sum-behind : (t : Transform) (base before behind : List ℕ) (planes : Planes) (srl raw : List Bool) (k : ℕ) → length (sent planes) ≡ 4096 → k < 4096
    → 1 ≤ value_of base (band_at t k) → value_of behind (band_at t k) ≤ value_of before (band_at t k)
    → sum_after (pass_of t (positions_at base before) (positions_at base behind) (record_by t base before planes).sums srl raw) (entries_of t before behind (sent planes)) k ≡ at (record_by t base behind planes).sums k
sum-behind t base before behind planes srl raw k long h some falls =
    let band : Band = band_at t k in
    let v : ℤ = at (sent planes) k in
    ap (λ z. z +ℤ coefficient_of (at (entries_of t before behind (sent planes)) k) (value_of (positions_at base behind) band)) (sum-is t base before planes k long h)
    ∙ ap (λ z. summed_at base before band v +ℤ coefficient_of z (value_of (positions_at base behind) band)) (entry-is t before behind (sent planes) k (omega arith))
    ∙ ap (λ s. summed_at base before band v +ℤ coefficient_of (gained band v (value_of before band) (value_of behind band)) s) (position-of base behind band)
    ∙ sums-go-on band v (value_of base band) (value_of before band) (value_of behind band) some falls
    ∙ sym (sum-is t base behind planes k long h)

-- what falls, in each band
abbrev pub Falls : List ℕ → List ℕ → List ℕ → Type 0
Falls base before behind = (band : Band) → (1 ≤ value_of base band) × (value_of behind band ≤ value_of before band)

pub upgrade-record : (result : Result (Unit {0}) Refusal) (t : Transform) (base before behind : List ℕ) (planes : Planes) (srl raw : List Bool) (old new : Part)
    → length (sent planes) ≡ 4096 → Falls base before behind → StaysWithin (record_by t base behind planes) → old ≡ record_by t base before planes
    → AreEntries (pass_of t (positions_at base before) (positions_at base behind) (record_by t base before planes).sums srl raw) (entries_of t before behind (sent planes))
    → Upgrades result (pass_of t (positions_at base before) (positions_at base behind) (record_by t base before planes).sums srl raw) (positions_at base behind) old new
    → IsOk result × (new ≡ record_by t base behind planes)
upgrade-record (Ok done) t base before behind planes srl raw old new long falls stays was entries took =
    let same : took.0 ≡ entries_of t before behind (sent planes) = one-reading _ took.0 _ took.1 entries in (
      refl,
      record-is t base behind planes new long took.5 (took.3 ∙ ap (λ (p : Part). p.kept) was) took.4
          (λ k h. took.2 k h ∙ ap (λ l. sum_after (pass_of t (positions_at base before) (positions_at base behind) (record_by t base before planes).sums srl raw) l k) same ∙ sum-behind t base before behind planes srl raw k long h (falls (band_at t k)).0 (falls (band_at t k)).1),
    )
upgrade-record (Err refusal) t base before behind planes srl raw old new long falls stays was entries took =
    let same : took.1.0 ≡ entries_of t before behind (sent planes) = one-reading _ took.1.0 _ took.1.1 entries in
    absurd
    (stays-not (record_by t base behind planes) old.kept (sum_after (pass_of t (positions_at base before) (positions_at base behind) (record_by t base before planes).sums srl raw) took.1.0) stays (ap (λ (p : Part). p.kept) was)
    (λ k h. ap (λ l. sum_after (pass_of t (positions_at base before) (positions_at base behind) (record_by t base before planes).sums srl raw) l k) same ∙ sum-behind t base before behind planes srl raw k long h (falls (band_at t k)).0 (falls (band_at t k)).1)
    took.1.2)
