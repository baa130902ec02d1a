use Rattle.gfx_pdu.proofs.Laws.{message_at-cut}
use Rattle.gfx_pdu.proofs.promises.a_cut_message_is_truncated.Goals as goal

pub returns : goal.returns
returns c = message_at-cut
