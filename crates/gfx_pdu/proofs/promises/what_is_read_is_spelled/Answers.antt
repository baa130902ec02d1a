use Rattle.gfx_pdu.proofs.Laws.{message_at-begins}
use Rattle.gfx_pdu.proofs.promises.what_is_read_is_spelled.Goals as goal

pub returns : goal.returns
returns c = message_at-begins
