use Rattle.gfx_prog_block.proofs.BlockLaws.{one-spelling}
use Rattle.gfx_prog_block.proofs.laws.blocks_have_one_spelling.Goals as goal

pub returns : goal.returns
returns c = one-spelling
