use Rattle.gfx_prog_block.proofs.BlockLaws.{blocks_of-spells}
use Rattle.gfx_prog_block.proofs.laws.what_is_spelled_as_blocks_is_read.Goals as goal

pub returns : goal.returns
returns c = blocks_of-spells
