-- Worked examples, computed from the definitions: a grey tile set, and the order of two faults.
use Rattle.std.proofs.Common.{◌≡◌, [], ◌∷◌, Ok, Err, refl}
use Rattle.gfx_base.specs.Results.{and_then}
use Rattle.gfx_base.specs.declared.refusal.Refusal.TheVariants.{BlockLength, BlockUnknown}
use Rattle.gfx_layout.specs.Shape.{part_in}
use Rattle.gfx_layout.specs.Reading.{read, read_whole, take_one, take_bytes}
use Rattle.gfx_rfx_video.specs.declared.block.VideoBlock.TheVariants.{FrameEnd}
use Rattle.gfx_rfx_video.specs.declared.tile.CodedTile.{CodedTile}
use Rattle.gfx_rfx_video.specs.Kinds.{block_type_of}
use Rattle.gfx_rfx_video.specs.BlockReading.{tile_at, block_of, block_at, blocks_within, video_blocks_of}

-- solid grey, in the first place of the rectangle
abbrev pub grey : CodedTile
grey = record {
  head = record { quant_y = 0; quant_cb = 1; quant_cr = 2; x_idx = 0; y_idx = 0 };
  y = 0 ∷ 0 ∷ 0 ∷ [];
  cb = 0 ∷ 0 ∷ 0 ∷ [];
  cr = 0 ∷ 0 ∷ 0 ∷ [];
}

pub grey-read : tile_at (0xC3 ∷ 0xCA ∷ 0x1C ∷ 0 ∷ 0 ∷ 0 ∷ 0 ∷ 1 ∷ 2 ∷ 0 ∷ 0 ∷ 0 ∷ 0 ∷ 3 ∷ 0 ∷ 3 ∷ 0 ∷ 3 ∷ 0 ∷ 0 ∷ 0 ∷ 0
    ∷ 0 ∷ 0 ∷ 0 ∷ 0 ∷ 0 ∷ 0 ∷ []) ≡ Ok (grey, [])
unfolding tile_at read read_whole take_one take_bytes part_in and_then
grey-read = refl

-- a block that is read; one of no known type; one with a length that isn't there; no blocks at all
pub examples : (video_blocks_of (0xC5 ∷ 0xCC ∷ 8 ∷ 0 ∷ 0 ∷ 0 ∷ 1 ∷ 0 ∷ []) ≡ Ok (FrameEnd ∷ []))
    × (video_blocks_of (0xC8 ∷ 0xCC ∷ 6 ∷ 0 ∷ 0 ∷ 0 ∷ []) ≡ Err BlockUnknown)
    × (video_blocks_of (0xC8 ∷ 0xCC ∷ 7 ∷ 0 ∷ 0 ∷ 0 ∷ []) ≡ Err BlockLength) × (video_blocks_of [] ≡ Ok [])
unfolding video_blocks_of blocks_within block_at block_of block_type_of read read_whole take_one take_bytes part_in and_then
examples = (refl, refl, refl, refl)
