-- A tile that is tested to be in range is so at each level.
use Rattle.std.proofs.Common.{◌≡◌, suc, Bool, true, false, ◌&&◌, ◌+ℤ◌, length, refl, arith}
use Rattle.gfx_dwt.specs.Ranges.{at}
use Rattle.gfx_quant.specs.declared.quant.Component.{Component}
use Rattle.gfx_quant.specs.declared.quant.Component.TheVariants.{Y, Cb, Cr}
use Rattle.gfx_quant.specs.Coefficient.{is_coefficient}
use Rattle.gfx_quant.specs.Setting.{all_below}
use Rattle.gfx_quant.proofs.Accepted.{each-below}
use Rattle.gfx_tile_state.specs.Passes.{Part}
use Rattle.gfx_tile_make.specs.Levels.{Fits, StaysWithin, record_at}
use Rattle.gfx_tile_make.specs.Source.{SourceTile}
use Rattle.gfx_prog_live.specs.Tiles.{is_in_range, stays_within}

both : (a b : Bool) → (a && b) ≡ true → (a ≡ true) × (b ≡ true)
both true b e = (refl, e)
both false b e = cc

-- a record that is tested
stays : (part : Part) → stays_within part ≡ true → StaysWithin part
stays part e k h = both _ _ (each-below 4096 (λ k. is_coefficient (at part.sums k) && is_coefficient (at part.kept k +ℤ at part.sums k)) e k h)

-- the test of a component
abbrev levels-test : SourceTile → Component → Bool
levels-test tile component = all_below (suc (length tile.setting.levels)) (λ level. stays_within (record_at tile component level))

each-component : (tile : SourceTile) → is_in_range tile ≡ true → (component : Component) → levels-test tile component ≡ true
unfolding is_in_range
each-component tile e Y = (both (levels-test tile Y) _ e).0
each-component tile e Cb = (both (levels-test tile Cb) _ (both (levels-test tile Y) _ e).1).0
each-component tile e Cr = (both (levels-test tile Cr) _ (both (levels-test tile Cb) _ (both (levels-test tile Y) _ e).1).1).0

pub in-range-fits : (tile : SourceTile) → is_in_range tile ≡ true → Fits tile
in-range-fits tile e component level listed =
    stays (record_at tile component level)
    (each-below (suc (length tile.setting.levels)) (λ level. stays_within (record_at tile component level)) (each-component tile e component) level (omega arith))
