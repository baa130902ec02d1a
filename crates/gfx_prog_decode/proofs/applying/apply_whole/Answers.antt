use Rattle.gfx_prog_decode.specs.Scene.{scene}
use Rattle.gfx_prog_decode.specs.Undo.{kept}
use Rattle.gfx_prog_decode.proofs.Steps.{undone_applies}
use Rattle.gfx_prog_decode.proofs.Undoing.{none_kept}
use Rattle.gfx_prog_decode.proofs.applying.apply_whole.Goals as goal

pub undo-requires : goal.undo-requires
undo-requires c =
    (c.apply_blocks.ensures.undo (scene c.args.records.now c.args.surface.now) (none_kept (kept c.args.bench.now.log) (scene c.args.records.now c.args.surface.now) c.requires)).records.can

pub returns-in-Err : goal.returns-in-Err
returns-in-Err c =
    undone_applies c.in-Err.fault _ (scene c.args.records.now c.args.surface.now) (scene c.apply_blocks.new.records c.apply_blocks.new.surface) (scene c.undo.new.records c.undo.new.surface)
    (kept c.args.bench.now.log) (kept c.apply_blocks.new.bench.log) c.requires c.in-Err.ensures.gives c.apply_blocks.ensures.undo c.undo.ensures
