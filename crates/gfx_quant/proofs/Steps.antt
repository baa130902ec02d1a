-- One more place of a loop over a plane.
use Rattle.std.proofs.Common.{◌≡◌, ◌≢◌, ℕ, ◌+◌, ◌<◌, ◌≤◌, ◌^◌, ℤ, pos, negsuc, List, length, Some, get_or, set, arith, get_or-set_other, get_or-set_same, below_more, ap, refl, ◌∙◌, to_z, of_z, w32, lit<, inl, inr}
use Rattle.std.proofs.lemmas.Int.{ints, to_z-of_z}
use Rattle.std.proofs.lemmas.Bool.{cases_lt}
use Rattle.std.proofs.lemmas.Grind.{common_steps}
use Rattle.std.proofs.lemmas.Option.{get_or_from_slice_get, gets}
use Rattle.std.specs.Prelude.{slice_get}
use lib.Signed.{mag}
use Rattle.gfx_base.specs.declared.pixel.Pixel.{Pixel}
use Rattle.gfx_dwt.specs.Ranges.{IsSample, Within, at}
use Rattle.gfx_quant.specs.Colour.{colour_of}
use Rattle.gfx_quant.specs.Planes.{MapsBetween}

-- a number that fits 32 bits is read back from them
pub bits_of_small : (z : ℤ) → mag z < 2 ^ 31 → to_z w32 (of_z w32 z) ≡ z
bits_of_small z h = to_z-of_z w32 z (record { sfits = h })

pub bits_of_within : (b : ℕ) (z : ℤ) → b < 2 ^ 31 → Within b z → to_z w32 (of_z w32 z) ≡ z
bits_of_within b (pos n) l h = bits_of_small (pos n) (omega (arith, ints))
bits_of_within b (negsuc n) l h = bits_of_small (negsuc n) (omega (arith, ints))

bits_of_sample : (z : ℤ) → IsSample z → to_z w32 (of_z w32 z) ≡ z
bits_of_sample (pos n) h = bits_of_small (pos n) (omega (arith, ints))
bits_of_sample (negsuc n) h = bits_of_small (negsuc n) (omega (arith, ints))

-- what holds of each number before a place still does after a write there, and of the number written
pub written : (P : ℕ → ℤ → Type 0) (xs : List ℤ) (i : ℕ) (x : ℤ) → i < length xs → P i x → ((k : ℕ) → k < i → P k (at xs k)) → (k : ℕ) → k < i + 1 → P k (at (set xs i x) k)
written P xs i x inside here before = below_more (λ k. P k (at (set xs i x) k)) i
    (λ k h. let apart : k ≢ i = omega arith in rw get_or-set_other (before k h))
    (rw get_or-set_same here)

pub slice_get-set_same : (xs : List Pixel) (i : ℕ) (x : Pixel) → i < length xs → slice_get (set xs i x) i ≡ Some x
slice_get-set_same xs i x h = grind (arith, common_steps, gets)

pub slice_get-set_other : (xs : List Pixel) (i k : ℕ) (x : Pixel) → k ≢ i → slice_get (set xs i x) k ≡ slice_get xs k
slice_get-set_other xs i k x h = grind (arith, common_steps, gets)

-- samples are read from a plane as they stand there
pub colour_read : (b : ℕ) (y cb cr : ℤ) → b < 2 ^ 31 → Within (2 ^ 23) y → Within b cb → Within b cr → colour_of (to_z w32 (of_z w32 y)) (to_z w32 (of_z w32 cb)) (to_z w32 (of_z w32 cr)) ≡ colour_of y cb cr
colour_read b y cb cr l p q r = rw (bits_of_within (2 ^ 23) y (lit< tt) p, bits_of_within b cb l q, bits_of_within b cr l r) refl

-- a sample at place k of a plane is that of the pixel there
pub record IsSampleOf (f : Pixel → ℤ) (pixels : List Pixel) (k : ℕ) (z : ℤ) : Type 0 where
  pub value : (p : Pixel) → slice_get pixels k ≡ Some p → z ≡ f p
  pub small : IsSample z

pub sample_here : (f : Pixel → ℤ) (pixels : List Pixel) (k : ℕ) (d : Pixel) (z : ℤ) → z ≡ f (get_or pixels k d) → IsSample z → IsSampleOf f pixels k (to_z w32 (of_z w32 z))
sample_here f pixels k d z e h = rw (bits_of_sample z h) (record { value = λ p g. e ∙ ap f (get_or_from_slice_get pixels k p d g); small = h })

-- one more place of the new list is f of the source's number
pub maps_step : (f : ℤ → ℤ) (from i : ℕ) (source old now : List ℤ) (x : ℤ) → from ≤ i → i < length now → x ≡ f (at source i) → MapsBetween f from i source old now → MapsBetween f from (i + 1) source old (set now i x)
maps_step f from i source old now x order inside here before = record {
  inside = λ k a b. below_more (λ k. from ≤ k → at (set now i x) k ≡ f (at source k)) i
      (λ k h a. let apart : k ≢ i = omega arith in get_or-set_other now i k x (pos 0) apart ∙ before.inside k a h)
      (λ a. get_or-set_same now i x (pos 0) inside ∙ here) k b a;
  below = λ k h. let apart : k ≢ i = omega arith in get_or-set_other now i k x (pos 0) apart ∙ before.below k h;
  behind = λ k h. let apart : k ≢ i = omega arith in get_or-set_other now i k x (pos 0) apart ∙ before.behind k (omega arith);
}

-- numbers that f maps to nought, which are put first, and those behind them
pub maps_joined : (f : ℤ → ℤ) (from middle to : ℕ) (source old now new : List ℤ) → from ≤ middle → middle ≤ to → ((k : ℕ) → from ≤ k → k < middle → pos 0 ≡ f (at source k)) → MapsBetween (λ _. pos 0) from middle old old now → MapsBetween f middle to source now new → MapsBetween f from to source old new
maps_joined f from middle to source old now new one two none first second = record {
  inside = λ k a b. elim (cases_lt k middle) [
    | inl h ↦ second.below k h ∙ first.inside k a h ∙ none k a h
    | inr h ↦ second.inside k h b
  ];
  below = λ k h. second.below k (omega arith) ∙ first.below k h;
  behind = λ k h. second.behind k h ∙ first.behind k (omega arith);
}
