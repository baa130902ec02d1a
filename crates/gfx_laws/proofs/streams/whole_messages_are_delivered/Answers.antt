use Rattle.gfx_laws.proofs.Delivering.{delivered}
use Rattle.gfx_laws.proofs.streams.whole_messages_are_delivered.Goals as goal

pub returns : goal.returns
returns c = delivered
