use Rattle.std.proofs.Common.{◌≡◌, true, length}
use Rattle.gfx_prog_block.specs.Reading.{begins_block, blocks_within}
use Rattle.gfx_prog_block.proofs.BlockLoops.{with_rest}
use Rattle.gfx_prog_block.proofs.reading.read_all.Given as goal

abbrev pub invariant-blocks-2 : goal.invariant-blocks-2
invariant-blocks-2 l =
    (with_rest l.blocks l.fields ≡ blocks_within (length l.bytes) l.bytes)
    × (begins_block l.fields ≡ true → begins_block l.bytes ≡ true)

abbrev pub decreases-blocks-2 : goal.decreases-blocks-2
decreases-blocks-2 l = length l.fields
