use Rattle.std.proofs.Common.{arith}
use Rattle.gfx_prog_block.proofs.BlockLaws.{given-spells}
use Rattle.gfx_prog_block.proofs.reading.read_blocks.Goals as goal

pub returns-clause-spelled : goal.returns-clause-spelled
returns-clause-spelled c = given-spells c.args.bytes.now c.read_data.result (λ i. omega (arith, c.type_inv.bytes i)) c.read_data.ensures.value
