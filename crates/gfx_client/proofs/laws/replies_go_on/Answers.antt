use Rattle.gfx_client.proofs.ReplyLemmas.{replies-append, replies-next}
use Rattle.gfx_client.proofs.laws.replies_go_on.Goals as goal

pub returns-clause-joined : goal.returns-clause-joined
returns-clause-joined c = replies-append

pub returns-clause-next : goal.returns-clause-next
returns-clause-next c = replies-next
