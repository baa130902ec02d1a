use Rattle.std.proofs.Common.{◌≡◌, ◌++◌, take}
use Rattle.std.specs.List.{flat_map}
use Rattle.gfx_prog_block.specs.Spelling.{block_text, sync_contents}
use Rattle.gfx_prog_block.proofs.writing.put_blocks.Given as goal

abbrev pub invariant-blocks-2 : goal.invariant-blocks-2
invariant-blocks-2 l = l.out ≡ l.initial.out ++ flat_map (block_text sync_contents) (take l.block-index l.blocks)
