-- Whole planes of a component, by their places (this project's own words).
use Rattle.std.specs.Prelude.{◌≡◌, ℕ, ◌<◌, ◌≤◌, ℤ, List, Bool, true, false, Some, None, slice_get, slice_index}
use Rattle.gfx_base.specs.declared.pixel.Pixel.{Pixel}
use Rattle.gfx_dwt.specs.declared.layout.Transform.{Transform}
use Rattle.gfx_dwt.specs.declared.layout.Band.{Band}
use Rattle.gfx_dwt.specs.Place.{LiesIn, number}
use Rattle.gfx_dwt.specs.Ranges.{at}
use Rattle.gfx_quant.specs.Quant.{value_of}
use Rattle.gfx_quant.specs.Coefficient.{coefficient_of, is_coefficient, dequantised}
use Rattle.gfx_quant.specs.Colour.{colour_of}

-- the value has a coefficient at this bit position
abbrev pub has_coefficient : ℕ → ℤ → Bool
has_coefficient position v = is_coefficient (coefficient_of v position)

-- a bit position for each band, from 1 to 30
abbrev pub ArePositions : List ℕ → Type 0
ArePositions positions = (k : ℕ) → k < 10 → (1 ≤ slice_index positions k) × (slice_index positions k ≤ 30)

-- a number for each band, at most 15 and not below another number
abbrev pub AreBits : ℕ → List ℕ → Type 0
AreBits fewer numbers = (k : ℕ) → k < 10 → (fewer ≤ slice_index numbers k) × (slice_index numbers k ≤ 15)

-- from one place to before another each new number is f of the source's; the others are as they were
pub record MapsBetween (f : ℤ → ℤ) (from to : ℕ) (source old new : List ℤ) : Type 0 where
  pub inside : (k : ℕ) → from ≤ k → k < to → at new k ≡ f (at source k)
  pub below : (k : ℕ) → k < from → at new k ≡ at old k
  pub behind : (k : ℕ) → to ≤ k → at new k ≡ at old k

-- each number of the new plane is f of its band and of the source's number
abbrev pub MapsBands : Transform → (Band → ℤ → ℤ) → List ℤ → List ℤ → Type 0
MapsBands t f source new = (band : Band) (k : ℕ) → LiesIn t band k → at new k ≡ f band (at source k)

-- each value from one place to before another has a coefficient at this bit position
abbrev pub AllHave : ℕ → List ℤ → ℕ → ℕ → Type 0
AllHave position values from to = (k : ℕ) → from ≤ k → k < to → has_coefficient position (at values k) ≡ true

-- some value from one place to before another has none
abbrev pub SomeLacks : ℕ → List ℤ → ℕ → ℕ → Type 0
SomeLacks position values from to = (k : ℕ) × ((from ≤ k) × (k < to) × (has_coefficient position (at values k) ≡ false))

-- each value of a plane became its coefficient, at the bit position of its band
abbrev pub Dequantises : Transform → List ℕ → List ℤ → List ℤ → Type 0
Dequantises t positions old new = (band : Band) (k : ℕ) → LiesIn t band k → dequantised (at old k) (value_of positions band) ≡ Some (at new k)

-- some value of a plane has no coefficient at the bit position of its band
abbrev pub LeavesRange : Transform → List ℕ → List ℤ → Type 0
LeavesRange t positions plane = (band : Band) × ((k : ℕ) × (LiesIn t band k × (dequantised (at plane k) (value_of positions band) ≡ None)))

-- all values of the first few bands have a coefficient at the bit position of their band
abbrev pub PlaneHas : ℕ → Transform → List ℕ → List ℤ → Type 0
PlaneHas count t positions plane = (band : Band) (k : ℕ) → number band < count → LiesIn t band k → has_coefficient (value_of positions band) (at plane k) ≡ true

-- each pixel is that of the samples at its place
abbrev pub AreColours : (y cb cr : List ℤ) → List Pixel → Type 0
AreColours y cb cr pixels = (k : ℕ) → k < 4096 → slice_get pixels k ≡ Some (colour_of (at y k) (at cb k) (at cr k))

-- each sample is that of the pixel at its place
abbrev pub EachIs : (Pixel → ℤ) → List Pixel → List ℤ → Type 0
EachIs sample_of pixels samples = (k : ℕ) (p : Pixel) → slice_get pixels k ≡ Some p → at samples k ≡ sample_of p
