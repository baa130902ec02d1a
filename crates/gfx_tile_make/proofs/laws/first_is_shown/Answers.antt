use Rattle.std.proofs.Common.{subst, arith}
use Rattle.gfx_quant.specs.Setting.{base_of, left_out}
use Rattle.gfx_tile_state.specs.Shapes.{positions_of}
use Rattle.gfx_tile_state.specs.Passes.{TakesFirst}
use Rattle.gfx_tile_state.specs.Record.{part_of}
use Rattle.gfx_tile_make.specs.Source.{planes_of}
use Rattle.gfx_tile_make.proofs.Records.{first-record}
use Rattle.gfx_tile_make.proofs.Sources.{sent-whole}
use Rattle.gfx_tile_make.proofs.laws.first_is_shown.Goals as goal

pub returns : goal.returns
returns c result source component bytes shape kept old new may fits code due took =
    first-record result source.setting.transform (base_of component source.setting) (left_out component source.setting.levels 0) (positions_of shape component) bytes kept (planes_of source component) (part_of old component) (part_of new component)
    (sent-whole source component may) (may.fits component 0 (omega arith)) code (fits.positions_are component) due
    (subst (λ t. TakesFirst result t (positions_of shape component) bytes kept (part_of old component) (part_of new component)) fits.transform_is took.0)
