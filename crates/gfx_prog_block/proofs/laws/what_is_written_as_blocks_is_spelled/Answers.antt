use Rattle.gfx_prog_block.proofs.BlockLaws.{spelling-spells}
use Rattle.gfx_prog_block.proofs.laws.what_is_written_as_blocks_is_spelled.Goals as goal

pub returns : goal.returns
returns c = spelling-spells
