use Rattle.std.proofs.Common.{arith}
use Rattle.gfx_generator.specs.Steps.{frame}
use Rattle.gfx_generator.specs.Texts.{frame_text}
use Rattle.gfx_generator.proofs.Severals.{Left_all, Left_next, Left_none}
use Rattle.gfx_generator.proofs.frames.put_frames.Goals as goal

pub frames-init : goal.frames-init
frames-init c = Left_all frame_text frame _ _ _ _ (omega arith)

pub frames-preserved : goal.frames-preserved
frames-preserved c =
    Left_next frame_text frame _ _ _ _ _ _ _ _ (omega arith) c.in_ok-put_frame.ensures.state c.in_ok-put_frame.ensures.text c.frames.invariant

pub returns-clause-text : goal.returns-clause-text
returns-clause-text c = (Left_none frame_text frame _ _ _ _ _ _ (omega arith) c.frames.invariant).0

pub returns-clause-state : goal.returns-clause-state
returns-clause-state c = (Left_none frame_text frame _ _ _ _ _ _ (omega arith) c.frames.invariant).1
