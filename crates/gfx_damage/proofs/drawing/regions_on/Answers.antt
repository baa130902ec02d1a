use Rattle.std.proofs.Common.{◌∙◌, ap, map, Some}
use Rattle.gfx_prog_block.specs.Reading.{blocks_of}
use Rattle.gfx_state.specs.Written.{areas_of, clipped, rect_of_area}
use Rattle.gfx_damage.proofs.DamageLemmas.{where_err}
use Rattle.gfx_damage.proofs.OpeningLemmas.{absent, present, is_written}
use Rattle.gfx_damage.proofs.drawing.regions_on.Goals as goal

pub returns-in_default-clause-value : goal.returns-in_default-clause-value
returns-in_default-clause-value c = absent c.args.state.now c.args.surface (map rect_of_area (areas_of (blocks_of c.args.payload.now))) (rw c.in_default.is at c.sides_of.ensures)

pub returns-in_err-blocks-clause-memory : goal.returns-in_err-blocks-clause-memory
returns-in_err-blocks-clause-memory c =
    where_err c.from_residual.result
    (is_written c.args.state.now c.args.surface (map rect_of_area (areas_of (blocks_of c.args.payload.now))) c.in-Some.sides (rw c.in-Some.is at c.sides_of.ensures))

pub returns-clause-value : goal.returns-clause-value
returns-clause-value c =
    ap (λ areas. Some (c.args.surface, map (clipped c.in-Some.sides.width c.in-Some.sides.height) (map rect_of_area areas))) c.in_ok-blocks.ensures
    ∙ present c.args.state.now c.args.surface (map rect_of_area (areas_of (blocks_of c.args.payload.now))) c.in-Some.sides (rw c.in-Some.is at c.sides_of.ensures)
