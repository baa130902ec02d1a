use Rattle.std.proofs.Common.{◌-◌}
use Rattle.gfx_generator.specs.Steps.{step}
use Rattle.gfx_generator.specs.Texts.{step_text}
use Rattle.gfx_generator.proofs.Severals.{Left}
use Rattle.gfx_generator.proofs.frames.put_steps.Given as goal

abbrev pub invariant-steps : goal.invariant-steps
invariant-steps l = Left step_text step (l.count - l.counter) l.count l.generator l.fn.generator l.text l.fn.text
