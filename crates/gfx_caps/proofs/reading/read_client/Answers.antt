use Rattle.std.proofs.Common.{arith}
use Rattle.gfx_caps.proofs.Laws.{given-spells}
use Rattle.gfx_caps.proofs.reading.read_client.Goals as goal

pub returns-clause-spelled : goal.returns-clause-spelled
returns-clause-spelled c = given-spells c.args.bytes.now c.read_alone.result (λ i. omega (arith, c.type_inv.bytes i)) c.read_alone.ensures.value
