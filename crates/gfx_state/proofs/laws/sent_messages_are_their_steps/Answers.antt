use Rattle.gfx_state.proofs.Sent.{eats-sent}
use Rattle.gfx_state.proofs.laws.sent_messages_are_their_steps.Goals as goal

pub returns : goal.returns
returns c = eats-sent
