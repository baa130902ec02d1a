use Rattle.std.proofs.Common.{◌≡◌, true, length}
use Rattle.gfx_rfx_video.specs.BlockReading.{begins_block, blocks_within}
use Rattle.gfx_rfx_video.proofs.BlockLoops.{with_rest}
use Rattle.gfx_rfx_video.proofs.block_reading.read_all.Given as goal

abbrev pub invariant-blocks-2 : goal.invariant-blocks-2
invariant-blocks-2 l =
    (with_rest l.blocks l.fields ≡ blocks_within (length l.bytes) l.bytes)
    × (begins_block l.fields ≡ true → begins_block l.bytes ≡ true)

abbrev pub decreases-blocks-2 : goal.decreases-blocks-2
decreases-blocks-2 l = length l.fields
