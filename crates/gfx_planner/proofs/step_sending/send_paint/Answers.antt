use Rattle.std.proofs.Common.{◌∙◌, sym}
use Rattle.gfx_planner.proofs.ClearPaintLemmas.{picture_missing}
use Rattle.gfx_planner.proofs.step_sending.send_paint.Goals as goal

pub unreachable-requires : goal.unreachable-requires
unreachable-requires c = picture_missing c.args.script.now c.args.sender.now c.args.paint.now c.requires (sym c.picture_size.ensures ∙ c.in_default.is)
