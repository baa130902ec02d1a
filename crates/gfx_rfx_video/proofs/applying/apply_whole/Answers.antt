use Rattle.gfx_rfx_video.proofs.Turns.{undone-applies}
use Rattle.gfx_rfx_video.proofs.applying.apply_whole.Goals as goal

pub returns-in-Err-clause-applies : goal.returns-in-Err-clause-applies
returns-in-Err-clause-applies c =
    undone-applies c.in-Err.fault _ c.args.surface.now c.apply_blocks.new.surface c.put_back.new.surface c.args.log.now.cells.items c.apply_blocks.new.log.cells.items
    c.requires.empty c.in-Err.ensures.gives c.apply_blocks.ensures.undo c.put_back.ensures.back
