-- What the bytes of a component say: coefficients, or why not.
use Rattle.std.proofs.Common.{◌≡◌, ◌∙◌, ℕ, zero, suc, ◌<◌, ◌≤◌, Bool, true, false, ◌&&◌, cond, ℤ, pos, negsuc, List, [], ◌∷◌, length, take, refl, sym, ap, subst, arith, Result, Ok, Err, Some, None}
use Rattle.std.specs.List.{list_all}
use Rattle.std.proofs.lemmas.Bool.{leb-true}
use Rattle.std.proofs.lemmas.Int.{ints}
use Rattle.std.proofs.lemmas.List.{length-take-le}
use Rattle.std.proofs.lemmas.List.Folds.{list_all_at}
use Rattle.gfx_base.specs.declared.refusal.Refusal.{Refusal}
use Rattle.gfx_base.specs.declared.refusal.Refusal.TheVariants.{CoefficientRange}
use Rattle.gfx_base.specs.Results.{and_then, check}
use Rattle.gfx_base.proofs.ResultLemmas.{and_then_at, and_then_refused}
use Rattle.gfx_rlgr.specs.declared.mode.Mode.{Mode}
use Rattle.gfx_rlgr.specs.Code.{start}
use Rattle.gfx_rlgr.specs.Rlgr.{Decodes, answer, in_range, terms}
use Rattle.gfx_rlgr.specs.Says.{decoded}
use Rattle.gfx_rlgr.proofs.Says.{decodes-only}
use Rattle.gfx_rlgr.proofs.Tokens.{needed-fewest}
use Rattle.gfx_dwt.specs.declared.layout.Transform.TheVariants.{Plain}
use Rattle.gfx_dwt.specs.Ranges.{AllCoefficients, Within, at}
use Rattle.gfx_quant.specs.Coefficient.{coefficient_of, dequantised, is_coefficient}
use Rattle.gfx_quant.specs.Planes.{Dequantises, LeavesRange}
use Rattle.gfx_quant.specs.Quant.{value_of}
use Rattle.gfx_tile_state.specs.Entries.{band_at}
use Rattle.gfx_tile_state.specs.Making.{plane_of}
use Rattle.gfx_tile_state.specs.Passes.{summed}
use Rattle.gfx_tile_state.proofs.Bands.{band_at-is, ends, lies-at}
use Rattle.gfx_tile_state.proofs.Making.{at-by_place, is-by_place, length-by_place, summed-whole}
use Rattle.gfx_tile_state.proofs.Places.{tests}
use Rattle.gfx_rfx_video.specs.Tiles.{coefficients_by, coefficients_of}

-- ---- the values of a code

values-of : Result (List ℤ) Refusal → List ℤ
values-of (Ok values) = values
values-of (Err refusal) = []

is-ok : Result (List ℤ) Refusal → Bool
is-ok (Ok values) = true
is-ok (Err refusal) = false

answered : (xs values : List ℤ) → Ok values ≡ answer xs → (values ≡ xs) × (list_all in_range values ≡ true)
unfolding answer values-of is-ok
answered xs values e = go (list_all in_range xs) refl e
  where
    go : (b : Bool) → list_all in_range xs ≡ b → ◌≡◌ {A = Result (List ℤ) Refusal} (Ok values) (cond b (Ok xs) (Err CoefficientRange)) → (values ≡ xs) × (list_all in_range values ≡ true)
    go true is same = (ap values-of same, ap (λ r. list_all in_range (values-of r)) same ∙ is)
    go false is same = absurd (true-false (ap is-ok same))
      where
        true-false : true ≡ false → ⊥
        true-false f = cc

both : (a b : Bool) → (a && b) ≡ true → (a ≡ true) × (b ≡ true)
both true b e = (refl, e)
both false b e = cc

range-within : (z : ℤ) → in_range z ≡ true → Within 32767 z
range-within (pos n) e = let most : n ≤ 32767 = leb-true n 32767 e in record { low = omega (arith, ints); high = omega (arith, ints) }
range-within (negsuc n) e = let most : suc n ≤ 32767 = leb-true (suc n) 32767 e in record { low = omega (arith, ints); high = omega (arith, ints) }

each-within : (values : List ℤ) → list_all in_range values ≡ true → (k : ℕ) → k < length values → Within 32767 (at values k)
each-within [] all k h = absurd (omega arith)
each-within (x ∷ values) all zero h = range-within x (both (in_range x) (list_all in_range values) all).0
each-within (x ∷ values) all (suc k) h = each-within values (both (in_range x) (list_all in_range values) all).1 k (omega arith)

-- they are in range, and 4,096
pub values-within : (mode : Mode) (bytes : List ℕ) (values : List ℤ) → Decodes mode bytes (Ok values) → (k : ℕ) → k < length values → Within 32767 (at values k)
values-within mode bytes values read = each-within values (answered _ values read.2).1

pub values-whole : (mode : Mode) (bytes : List ℕ) (values : List ℤ) → Decodes mode bytes (Ok values) → length values ≡ 4096
values-whole mode bytes values read =
    ap length (answered (take 4096 (terms start read.0)) values read.2).0
    ∙ length-take-le 4096 (terms start read.0) (needed-fewest 4096 start read.0 read.1.fewest)

-- ---- their coefficients

coefficient-there : (v c : ℤ) (position : ℕ) → dequantised v position ≡ Some c → c ≡ coefficient_of v position
coefficient-there v c position e = go (is_coefficient (coefficient_of v position)) e
  where
    go : (b : Bool) → cond b (Some (coefficient_of v position)) None ≡ Some c → c ≡ coefficient_of v position
    go true same = cc
    go false same = cc

none-there : (v : ℤ) (position : ℕ) → dequantised v position ≡ None → is_coefficient (coefficient_of v position) ≡ false
none-there v position e = go (is_coefficient (coefficient_of v position)) refl e
  where
    go : (b : Bool) → is_coefficient (coefficient_of v position) ≡ b → cond b (Some (coefficient_of v position)) None ≡ None → is_coefficient (coefficient_of v position) ≡ false
    go true is same = cc
    go false is same = is

each-passes : (test : ℤ → Bool) (xs : List ℤ) → ((k : ℕ) → k < length xs → test (at xs k) ≡ true) → list_all test xs ≡ true
each-passes test [] h = refl
each-passes test (x ∷ xs) h = joined (test x) (list_all test xs) (h 0 (omega arith)) (each-passes test xs (λ k less. h (suc k) (omega arith)))
  where
    joined : (a b : Bool) → a ≡ true → b ≡ true → (a && b) ≡ true
    joined true b e f = f
    joined false b e f = e

module _ (mode : Mode) (base bytes : List ℕ) where
  -- the numbers that values stand for
  abbrev at-place : ℕ → ℤ → ℤ
  at-place k value = coefficient_of value (value_of base (band_at Plain k))

  -- a code that says values
  read-values : (values : List ℤ) → Decodes mode bytes (Ok values) → coefficients_of mode base bytes ≡ coefficients_by base values
  unfolding coefficients_of
  read-values values read = and_then_at (decoded mode bytes) values (coefficients_by base) (sym (decodes-only mode bytes (Ok values) read))

  -- or none
  pub unread : Decodes mode bytes (Err CoefficientRange) → coefficients_of mode base bytes ≡ Err CoefficientRange
  unfolding coefficients_of
  unread bad = and_then_refused (decoded mode bytes) CoefficientRange (coefficients_by base) (sym (decodes-only mode bytes (Err CoefficientRange) bad))

  by-values : (values : List ℤ) (b : Bool) → list_all is_coefficient (plane_of Plain base (summed Plain values)) ≡ b
      → coefficients_by base values ≡ and_then (check CoefficientRange b) (λ _. Ok (plane_of Plain base (summed Plain values)))
  unfolding coefficients_by
  by-values values b is = ap (λ c. and_then (check CoefficientRange c) (λ _. Ok (plane_of Plain base (summed Plain values)))) is

  whole : (values : List ℤ) → Decodes mode bytes (Ok values) → length (summed Plain values) ≡ 4096
  whole values read = summed-whole Plain values (values-whole mode bytes values read)

  -- values whose coefficients these are
  pub planned : (values summed_up plane : List ℤ) → Decodes mode bytes (Ok values) → summed_up ≡ summed Plain values → length plane ≡ 4096 → Dequantises Plain base summed_up plane → AllCoefficients plane
      → coefficients_of mode base bytes ≡ Ok plane
  unfolding and_then
  planned values summed_up plane read sums long done small =
      let given : Dequantises Plain base (summed Plain values) plane = subst (λ s. Dequantises Plain base s plane) sums done in
      let same : plane_of Plain base (summed Plain values) ≡ plane =
      is-by_place at-place (summed Plain values) plane 4096 (whole values read) long
      (λ k h. coefficient-there (at (summed Plain values) k) (at plane k) (value_of base (band_at Plain k)) (given (band_at Plain k) k (lies-at Plain k h))) in
      let fits : list_all is_coefficient (plane_of Plain base (summed Plain values)) ≡ true =
      ap (list_all is_coefficient) same ∙ each-passes is_coefficient plane (λ k h. tests (at plane k) (small k h)) in
      read-values values read ∙ by-values values true fits ∙ ap (λ p. Ok p) same

  -- values of which one has none
  pub lacking : (values : List ℤ) → Decodes mode bytes (Ok values) → LeavesRange Plain base (summed Plain values) → coefficients_of mode base bytes ≡ Err CoefficientRange
  unfolding and_then
  lacking values read (band, (k, (lies, none))) =
      let inside : k < 4096 = omega (arith, lies.1, ends Plain band) in
      let long : k < length (summed Plain values) = omega (arith, whole values read) in
      let there : at (plane_of Plain base (summed Plain values)) k ≡ coefficient_of (at (summed Plain values) k) (value_of base band) =
      at-by_place at-place (summed Plain values) k long ∙ ap (λ b. coefficient_of (at (summed Plain values) k) (value_of base b)) (band_at-is Plain band k lies) in
      let fails : list_all is_coefficient (plane_of Plain base (summed Plain values)) ≡ false =
      list_all_at is_coefficient (plane_of Plain base (summed Plain values)) k (pos 0) (omega (arith, length-by_place at-place (summed Plain values), whole values read))
      (ap is_coefficient there ∙ none-there (at (summed Plain values) k) (value_of base band) none) in
      read-values values read ∙ by-values values false fails
