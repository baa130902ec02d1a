use Rattle.gfx_prog_block.proofs.BlockLaws.{blocks_of-read}
use Rattle.gfx_prog_block.proofs.laws.what_is_read_as_blocks_is_spelled.Goals as goal

pub returns : goal.returns
returns c = blocks_of-read
