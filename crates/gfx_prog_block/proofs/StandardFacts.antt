-- Worked examples, computed from the definitions: a grey tile, a sync block, and the order of two faults.
use Rattle.std.proofs.Common.{◌≡◌, [], ◌∷◌, Ok, Err, refl}
use Rattle.gfx_base.specs.Results.{and_then}
use Rattle.gfx_base.specs.declared.refusal.Refusal.TheVariants.{BlockLength, BlockUnknown}
use Rattle.gfx_layout.specs.Shape.{text, part_in}
use Rattle.gfx_layout.specs.Reading.{read, read_whole, take_one, take_bytes}
use Rattle.gfx_prog_block.specs.declared.block.Block.TheVariants.{Sync, FrameEnd}
use Rattle.gfx_prog_block.specs.declared.tile.Tile.{Tile}
use Rattle.gfx_prog_block.specs.declared.tile.Tile.TheVariants.{First}
use Rattle.gfx_prog_block.specs.Kinds.{block_type_of}
use Rattle.gfx_prog_block.specs.Reading.{block_at, blocks_within, blocks_of}
use Rattle.gfx_prog_block.specs.Spelling.{tile_body, tile_measure, tile_text, block_text, spelling}

-- solid grey at the first level, in the first cell
abbrev pub grey : Tile
grey = First (record { quant_y = 0; quant_cb = 1; quant_cr = 2; x_idx = 0; y_idx = 0 }) 0 0
    (record { y = 0 ∷ 0 ∷ 0 ∷ []; cb = 0 ∷ 0 ∷ 0 ∷ []; cr = 0 ∷ 0 ∷ 0 ∷ []; tail = [] })

pub grey-text : tile_text grey ≡
    0xC6 ∷ 0xCC ∷ 0x20 ∷ 0 ∷ 0 ∷ 0 ∷ 0 ∷ 1 ∷ 2 ∷ 0 ∷ 0 ∷ 0 ∷ 0 ∷ 0 ∷ 0 ∷ 3 ∷ 0 ∷ 3 ∷ 0 ∷ 3 ∷ 0 ∷ 0 ∷ 0
    ∷ 0 ∷ 0 ∷ 0 ∷ 0 ∷ 0 ∷ 0 ∷ 0 ∷ 0 ∷ 0 ∷ []
unfolding tile_text tile_body tile_measure text
grey-text = refl

pub sync-text : spelling (Sync ∷ FrameEnd ∷ []) ≡ 0xC0 ∷ 0xCC ∷ 12 ∷ 0 ∷ 0 ∷ 0 ∷ 0xCA ∷ 0xAC ∷ 0xCC ∷ 0xCA ∷ 0 ∷ 1 ∷ 0xC2 ∷ 0xCC ∷ 6 ∷ 0 ∷ 0 ∷ 0 ∷ []
unfolding spelling block_text
sync-text = refl

-- a block of no known type; one with a length that isn't there; no blocks at all
pub faults : (blocks_of (0xC9 ∷ 0xCC ∷ 6 ∷ 0 ∷ 0 ∷ 0 ∷ []) ≡ Err BlockUnknown) × (blocks_of (0xC9 ∷ 0xCC ∷ 7 ∷ 0 ∷ 0 ∷ 0 ∷ []) ≡ Err BlockLength) × (blocks_of [] ≡ Ok [])
unfolding blocks_of blocks_within block_at block_type_of read read_whole take_one take_bytes part_in and_then
faults = (refl, refl, refl)
