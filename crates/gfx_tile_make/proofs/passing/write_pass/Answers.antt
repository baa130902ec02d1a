use Rattle.std.proofs.Common.{◌∙◌}
use Rattle.gfx_tile_make.specs.Upgrade.{entries_of}
use Rattle.gfx_tile_make.specs.Writing.{upgrade_by}
use Rattle.gfx_tile_make.proofs.ByBand.{length-by_band}
use Rattle.gfx_tile_make.proofs.Places.{begins, if-ok}
use Rattle.gfx_tile_make.proofs.passing.write_pass.Goals as goal

pub returns : goal.returns
returns c =
    if-ok _ _ _ c.finish.result
    (λ pass written base.
    let upgrade = upgrade_by c.args.transform base c.args.before.now c.args.behind.now c.args.values.now in
    let entries = entries_of c.args.transform c.args.before.now c.args.behind.now c.args.values.now in
    written upgrade entries (length-by_band _ _ c.args.values.now ∙ c.told-values) (c.in_ok-write_plane.ensures base (begins upgrade entries _ c.new.ensures c.new-2.ensures)))
    c.finish.ensures
