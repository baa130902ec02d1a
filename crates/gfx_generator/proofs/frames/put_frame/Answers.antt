use Rattle.gfx_generator.specs.Texts.{frame_text}
use Rattle.gfx_generator.proofs.Joining.{on_ok, two_joined}
use Rattle.gfx_generator.proofs.frames.put_frame.Goals as goal

pub returns-clause-text : goal.returns-clause-text
unfolding frame_text
returns-clause-text c = on_ok c.append.result c.append.ensures.ok (two_joined _ _ _ _ _ c.in_ok-put_steps.ensures.text)

pub returns-clause-state : goal.returns-clause-state
returns-clause-state c = on_ok c.append.result c.append.ensures.ok (λ _. c.in_ok-put_steps.ensures.state)
