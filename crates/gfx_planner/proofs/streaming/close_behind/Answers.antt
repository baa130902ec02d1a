use Rattle.gfx_planner.proofs.Frames.{closed_now, left_open}
use Rattle.gfx_planner.proofs.streaming.close_behind.Goals as goal

pub returns-in-Frame : goal.returns-in-Frame
returns-in-Frame c = closed_now c.close_frame.result c.args.planner.now c.close_frame.new.self c.args.out.now c.close_frame.new.out c.args.step.now c.in-Frame.is c.close_frame.ensures

pub returns-in_default : goal.returns-in_default
returns-in_default c = left_open c.args.planner.now c.args.out.now c.args.step.now c.requires.fresh c.in_default.not-Frame
