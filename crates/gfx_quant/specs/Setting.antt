-- Which progressive settings are accepted (this project's own rule).
use Prim.Native.Nat.{zero, suc}
use Rattle.std.specs.Prelude.{ℕ, ◌+◌, ◌≤◌, ◌≡◌, Bool, true, ◌&&◌, List, [], ◌∷◌, length, nat_lt, nat_le, slice_index}
use Rattle.std.specs.List.{All}
use Rattle.gfx_quant.specs.declared.quant.Component.{Component}
use Rattle.gfx_quant.specs.declared.quant.Component.TheVariants.{Y, Cb, Cr}
use Rattle.gfx_quant.specs.declared.setting.Level.{Level}
use Rattle.gfx_quant.specs.declared.setting.Setting.{Setting}
use Rattle.gfx_quant.specs.declared.quant.TheConstants.{MOST_BITS}
use Rattle.gfx_quant.specs.declared.setting.TheConstants.{MOST_FALL, MOST_LEVELS}
use Rattle.gfx_quant.specs.Quant.{is_base, noughts}

-- whether a test holds of each number below n
unfoldable pub all_below : ℕ → (ℕ → Bool) → Bool
all_below zero test = true
all_below (suc n) test = all_below n test && test n

-- what a level leaves out of a component
abbrev pub of_level : Component → Level → List ℕ
of_level Y level = level.y.values
of_level Cb level = level.cb.values
of_level Cr level = level.cr.values

-- what a component's bands are quantised by
abbrev pub base_of : Component → Setting → List ℕ
base_of Y setting = setting.y.values
base_of Cb setting = setting.cb.values
base_of Cr setting = setting.cr.values

-- what is left out of a component at a level: behind the listed levels nothing is
abbrev pub left_out : Component → List Level → ℕ → List ℕ
left_out component [] i = noughts
left_out component (level ∷ levels) zero = of_level component level
left_out component (level ∷ levels) (suc i) = left_out component levels i

-- base and level together are at most 15 in each band
unfoldable pub stays_within : List ℕ → List ℕ → Bool
stays_within base level = all_below 10 (λ k. nat_le (slice_index base k + slice_index level k) MOST_BITS)

-- from one level to the next no band rises, and none falls by more than 6
unfoldable pub falls_well : List ℕ → List ℕ → Bool
falls_well level next = all_below 10 (λ k. nat_le (slice_index next k) (slice_index level k) && nat_le (slice_index level k) (slice_index next k + MOST_FALL))

-- one component of an accepted setting
unfoldable pub is_fine : Component → List ℕ → List Level → Bool
is_fine component base levels =
    is_base base && all_below (length levels) (λ i. stays_within base (left_out component levels i) && falls_well (left_out component levels i) (left_out component levels (suc i)))

-- an accepted setting: it lists a level, and its components are fine
abbrev pub is_accepted : Setting → Bool
is_accepted setting =
    nat_lt 0 (length setting.levels)
    && (is_fine Y setting.y.values setting.levels && (is_fine Cb setting.cb.values setting.levels && is_fine Cr setting.cr.values setting.levels))

-- what is known of an accepted setting of the code: ten numbers for each component, and no more levels than there may be
pub record IsSetting (setting : Setting) : Type 0 where
  pub accepted : is_accepted setting ≡ true
  pub bases : (component : Component) → length (base_of component setting) ≡ 10
  pub levels : All (λ (level : Level). (component : Component) → length (of_level component level) ≡ 10) setting.levels
  pub few : length setting.levels ≤ MOST_LEVELS
