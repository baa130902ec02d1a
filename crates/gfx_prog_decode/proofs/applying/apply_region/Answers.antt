use Rattle.std.proofs.lemmas.Result.{err_from_is_err_and}
use Rattle.gfx_prog_decode.specs.Scene.{scene}
use Rattle.gfx_prog_decode.proofs.Steps.{region_gives, region_unbased}
use Rattle.gfx_prog_decode.proofs.applying.apply_region.Goals as goal

pub returns-in_err-check_bases-clause-gives : goal.returns-in_err-check_bases-clause-gives
returns-in_err-check_bases-clause-gives c =
    let p = err_from_is_err_and c.from_residual.result c.from_residual.ensures.1 in
    rw (p.1, p.2) (region_unbased c.args.place c.args.region.now (scene c.args.records.now c.args.surface.now) c.in_err-check_bases.field-0.0 (rw c.as_slice.ensures at c.in_err-check_bases.ensures))

pub returns-clause-gives : goal.returns-clause-gives
returns-clause-gives c =
    region_gives c.args.place c.args.region.now (scene c.args.records.now c.args.surface.now) c.apply_tiles.result _ (rw c.as_slice.ensures at c.in_ok-check_bases.ensures)
    (rw c.as_slice-2.ensures at c.apply_tiles.ensures.gives)
