-- Where 16 bits are enough (this project's own bound).
use Rattle.std.specs.Prelude.{ℕ, ◌+◌, ◌*◌, ◌<◌, ◌≤◌, ℤ, List}
use Rattle.gfx_dwt.specs.declared.layout.Transform.{Transform}
use Rattle.gfx_dwt.specs.declared.layout.Scale.{Scale}
use Rattle.gfx_dwt.specs.declared.layout.Scale.TheVariants.{First, Second, Third}
use Rattle.gfx_dwt.specs.declared.layout.Band.TheVariants.{Ll3}
use Rattle.gfx_dwt.specs.Joining.{joined}
use Rattle.gfx_dwt.specs.Place.{coefficient, high_size, line_size, low_size, low_start, part_start}
use Rattle.gfx_dwt.specs.Ranges.{AllWithin, Within, at}
use Rattle.gfx_dwt.specs.Samples.{level_joined, quarter, second_level, third_level}

-- the three bands of a level, which stand one behind the other from where its part of the plane begins
abbrev pub hl_of : Transform → Scale → List ℤ → ℕ → ℕ → ℤ
hl_of t l plane = quarter (part_start t l) (high_size t l) plane

abbrev pub lh_of : Transform → Scale → List ℤ → ℕ → ℕ → ℤ
lh_of t l plane = quarter (part_start t l + low_size t l * high_size t l) (low_size t l) plane

abbrev pub hh_of : Transform → Scale → List ℤ → ℕ → ℕ → ℤ
hh_of t l plane = quarter (part_start t l + (low_size t l * high_size t l + high_size t l * low_size t l)) (high_size t l) plane

-- a level from its low quarter, and from its bands in a plane
unfoldable pub level_of : Transform → Scale → List ℤ → (ℕ → ℕ → ℤ) → ℕ → ℕ → ℤ
level_of t l plane ll = level_joined t l ll (hl_of t l plane) (lh_of t l plane) (hh_of t l plane)

-- A low and a high half fit 16 bits together: no number of the one is beyond a magnitude, and none of the other beyond one
-- that is at most 8,191, and those two magnitudes are at most 16,382 together.
pub record FitTogether (low_within high_within : ℕ → Type 0) : Type 0 where
  pub low_most : ℕ
  pub high_most : ℕ
  pub high_fits : high_most ≤ 8191
  pub both_fit : low_most + high_most ≤ 16382
  pub low_half : low_within low_most
  pub high_half : high_within high_most

-- two lists do so as halves
abbrev pub AreSmall : List ℤ → List ℤ → Type 0
AreSmall low high = FitTogether (λ most. AllWithin most low) (λ most. AllWithin most high)

-- What a level is joined from fits: its low quarter and its three bands, and then the low and the high rows of which its
-- columns are joined.
pub record IsNarrow (t : Transform) (l : Scale) (plane : List ℤ) (ll : ℕ → ℕ → ℤ) : Type 0 where
  pub quarters : FitTogether (λ most. (r c : ℕ) → r < low_size t l → c < low_size t l → Within most (ll r c)) (λ most. (k : ℕ) → k < low_start t l → Within most (at plane (part_start t l + k)))
  pub rows : FitTogether (λ most. (r x : ℕ) → r < low_size t l → x < line_size t l → Within most (joined t l (ll r) (hl_of t l plane r) x)) (λ most. (r x : ℕ) → r < high_size t l → x < line_size t l → Within most (joined t l (lh_of t l plane r) (hh_of t l plane r) x))

-- it is so at each level: the low quarter of the third is LL3, and that of the others what the level before it gives
pub record StaysNarrow (t : Transform) (plane : List ℤ) : Type 0 where
  pub third : IsNarrow t Third plane (coefficient t plane Ll3)
  pub second : IsNarrow t Second plane (third_level t plane)
  pub first : IsNarrow t First plane (second_level t plane)
