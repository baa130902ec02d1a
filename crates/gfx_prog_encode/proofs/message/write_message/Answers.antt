use Rattle.std.proofs.Common.{sym, subst}
use Rattle.std.specs.List.{AllByRecursion}
use Rattle.gfx_prog_block.specs.Fitting.{IsSpellable, IsSpellableRegion}
use Rattle.gfx_prog_encode.proofs.Regions.{blocks-fit, region-fits}
use Rattle.gfx_prog_encode.proofs.message.write_message.Goals as goal

pub write_blocks-requires : goal.write_blocks-requires
write_blocks-requires c =
    subst (AllByRecursion IsSpellable) (sym c.in_ok-blocks.ensures)
    (blocks-fit c.in_ok-region.region c.args.index
    (subst IsSpellableRegion (sym c.in_ok-region.ensures.value) (region-fits c.args.setting.now c.args.sends.now c.args.tiles c.requires.few c.requires.each c.in_ok-region.ensures.few c.requires.short)))
