use Rattle.std.proofs.Common.{◌∙◌, sym}
use Rattle.gfx_script.proofs.Framed.{framed_last}
use Rattle.gfx_script.proofs.script.is_framed.Goals as goal

pub returns-in-Some : goal.returns-in-Some
returns-in-Some c = c.is_frame.ensures ∙ sym (framed_last c.args.steps.now c.in-Some.step.now c.in-Some.ensures.value)
