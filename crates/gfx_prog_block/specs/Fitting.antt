-- What fits the fields of a block ([MS-RDPEGFX] 2.2.4.2).
use Rattle.std.specs.Prelude.{◌+◌, ◌<◌, ◌^◌, length}
use Rattle.std.specs.List.{AllByRecursion}
use Rattle.gfx_layout.specs.Shape.{PartFits}
use Rattle.gfx_prog_block.specs.declared.block.Block.{Block}
use Rattle.gfx_prog_block.specs.declared.block.Block.TheVariants as blocks
use Rattle.gfx_prog_block.specs.declared.region.Region.{Region}
use Rattle.gfx_prog_block.specs.declared.tile.FirstPass.{FirstPass}
use Rattle.gfx_prog_block.specs.declared.tile.Tile.{Tile}
use Rattle.gfx_prog_block.specs.declared.tile.Tile.TheVariants as tiles
use Rattle.gfx_prog_block.specs.declared.tile.UpgradePass.{UpgradePass}
use Rattle.gfx_prog_block.specs.Shapes.{area, tile_head}
use Rattle.gfx_prog_block.specs.Spelling.{region_measure}

-- lengths of two bytes
abbrev pub FirstPassFits : FirstPass → Type 0
FirstPassFits pass =
    (length pass.y < 2 ^ 16) × (length pass.cb < 2 ^ 16) × (length pass.cr < 2 ^ 16) × (length pass.tail < 2 ^ 16)

abbrev pub UpgradePassFits : UpgradePass → Type 0
UpgradePassFits pass =
    (length pass.y_srl < 2 ^ 16) × (length pass.y_raw < 2 ^ 16) × (length pass.cb_srl < 2 ^ 16)
    × (length pass.cb_raw < 2 ^ 16) × (length pass.cr_srl < 2 ^ 16) × (length pass.cr_raw < 2 ^ 16)

abbrev pub IsSpellableTile : Tile → Type 0
IsSpellableTile (tiles.Simple head flags pass) = FirstPassFits pass
IsSpellableTile (tiles.First head flags quality pass) = FirstPassFits pass
IsSpellableTile (tiles.Upgrade head quality pass) = UpgradePassFits pass

-- counts and lengths fit their fields, that of the whole region among them
pub record IsSpellableRegion (r : Region) : Type 0 where
  pub rects : length r.rects < 2 ^ 16
  pub quants : length r.quants < 2 ^ 8
  pub levels : length r.levels < 2 ^ 8
  pub tiles : length r.tiles < 2 ^ 16
  pub each : AllByRecursion IsSpellableTile r.tiles
  pub short : 6 + region_measure r < 2 ^ 32

abbrev pub IsSpellable : Block → Type 0
IsSpellable (blocks.Region r) = IsSpellableRegion r
IsSpellable block = Unit {0}

-- the cell's numbers fit their fields, as all of a program's do (a byte is written as it is)
abbrev pub IsTileHead : Tile → Type 0
IsTileHead (tiles.Simple head flags pass) = PartFits tile_head head
IsTileHead (tiles.First head flags quality pass) = PartFits tile_head head
IsTileHead (tiles.Upgrade head quality pass) = PartFits tile_head head

abbrev pub NumbersFit : Block → Type 0
NumbersFit (blocks.FrameBegin index regions) = (index < 2 ^ 32) × (regions < 2 ^ 16)
NumbersFit (blocks.Region r) = AllByRecursion (PartFits area) r.rects × AllByRecursion IsTileHead r.tiles
NumbersFit block = Unit {0}

-- all of a block fits its field
pub record Fits (block : Block) : Type 0 where
  pub numbers : NumbersFit block
  pub spellable : IsSpellable block
