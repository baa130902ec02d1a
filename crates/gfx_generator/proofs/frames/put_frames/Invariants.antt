use Rattle.std.proofs.Common.{◌-◌}
use Rattle.gfx_generator.specs.Steps.{frame}
use Rattle.gfx_generator.specs.Texts.{frame_text}
use Rattle.gfx_generator.proofs.Severals.{Left}
use Rattle.gfx_generator.proofs.frames.put_frames.Given as goal

abbrev pub invariant-frames : goal.invariant-frames
invariant-frames l = Left frame_text frame (l.count - l.counter) l.count l.generator l.fn.generator l.text l.fn.text
