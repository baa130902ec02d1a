use Rattle.std.proofs.Common.{arith}
use Rattle.gfx_pdu.proofs.Laws.{borrowed-begins}
use Rattle.gfx_pdu.proofs.reading.read_pdu_ref.Goals as goal

pub returns-clause-spelled : goal.returns-clause-spelled
returns-clause-spelled c = borrowed-begins c.args.payload.now c.args.at c.read_next.result (λ i. omega (arith, c.type_inv.payload i)) c.read_next.ensures.value
