-- Whether the sums of a level are in range, place by place (this project's own rule).
use Rattle.std.specs.Prelude.{ℕ, ◌+◌, ◌<◌, ◌≤◌, ◌≡◌, ℤ, ◌+ℤ◌, Bool, true, false, ◌&&◌, List, slice_index}
use Rattle.gfx_dwt.specs.declared.layout.Transform.{Transform}
use Rattle.gfx_dwt.specs.declared.layout.Band.{Band}
use Rattle.gfx_dwt.specs.Ranges.{at}
use Rattle.gfx_quant.specs.declared.quant.Component.{Component}
use Rattle.gfx_quant.specs.declared.setting.Level.{Level}
use Rattle.gfx_quant.specs.Coefficient.{coefficient_of, is_coefficient, truncated}
use Rattle.gfx_quant.specs.Quant.{value_of}
use Rattle.gfx_quant.specs.Setting.{left_out}
use Rattle.gfx_tile_state.specs.Entries.{band_at}

-- the sum of a value, and what it makes of a kept one, are coefficients
unfoldable pub fits_at : Band → ℕ → ℕ → ℤ → ℤ → Bool
fits_at band base level kept v =
    is_coefficient (coefficient_of (truncated band v level) (base + level))
    && is_coefficient (coefficient_of kept base +ℤ coefficient_of (truncated band v level) (base + level))

-- base and level together are at most so much in each band
abbrev pub StayWithin : ℕ → List ℕ → List ℕ → Type 0
StayWithin most base level = (k : ℕ) → k < 10 → slice_index base k + slice_index level k ≤ most

-- the values from one place to before another, all of one band, fit
abbrev pub BandFits : Band → ℕ → ℕ → List ℤ → List ℤ → ℕ → ℕ → Type 0
BandFits band base level kept values from to = (k : ℕ) → k < to → from ≤ k → fits_at band base level (at kept k) (at values k) ≡ true

-- or one doesn't
abbrev pub BandLeaves : Band → ℕ → ℕ → List ℤ → List ℤ → ℕ → ℕ → Type 0
BandLeaves band base level kept values from to = (k : ℕ) × ((k < to) × ((from ≤ k) × (fits_at band base level (at kept k) (at values k) ≡ false)))

-- a place of the plane fits
abbrev pub place_fits : Transform → List ℕ → List ℕ → List ℤ → List ℤ → ℕ → Bool
place_fits t base level kept values k = fits_at (band_at t k) (value_of base (band_at t k)) (value_of level (band_at t k)) (at kept k) (at values k)

-- the places before one fit
abbrev pub PlaneFits : Transform → List ℕ → List ℕ → List ℤ → List ℤ → ℕ → Type 0
PlaneFits t base level kept values place = (k : ℕ) → k < place → place_fits t base level kept values k ≡ true

-- or one doesn't
abbrev pub PlaneLeaves : Transform → List ℕ → List ℕ → List ℤ → List ℤ → ℕ → Type 0
PlaneLeaves t base level kept values place = (k : ℕ) × ((k < place) × (place_fits t base level kept values k ≡ false))

-- a component fits at its first levels
abbrev pub LevelsFit : Component → Transform → List ℕ → List Level → List ℤ → List ℤ → ℕ → Type 0
LevelsFit component t base levels kept values count = (i : ℕ) → i < count → PlaneFits t base (left_out component levels i) kept values 4096

-- or at one of them it doesn't
abbrev pub LevelsLeave : Component → Transform → List ℕ → List Level → List ℤ → List ℤ → ℕ → Type 0
LevelsLeave component t base levels kept values count = (i : ℕ) × ((i < count) × PlaneLeaves t base (left_out component levels i) kept values 4096)
