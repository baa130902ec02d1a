use Rattle.gfx_pdu.proofs.Laws.{message_at-spells}
use Rattle.gfx_pdu.proofs.promises.what_is_spelled_is_read.Goals as goal

pub returns : goal.returns
returns c = message_at-spells
