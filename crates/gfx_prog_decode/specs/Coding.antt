-- How a tile is coded, by its head and its region ([MS-RDPEGFX] 2.2.4.2.1.5, RFX_PROGRESSIVE_TILE_SIMPLE, _FIRST and
-- _UPGRADE). The order of the checks is this project's own rule.
use Rattle.std.specs.Prelude.{ℕ, ◌+◌, ◌*◌, ◌%◌, ◌==◌, Bool, ◌&&◌, nat_lt, List, [], ◌∷◌, slice_get, Result, Ok, if◌then◌else◌}
use Rattle.std.specs.List.{list_all}
use Rattle.std.specs.Option.{ok_or}
use Rattle.gfx_base.specs.declared.refusal.Refusal.{Refusal}
use Rattle.gfx_base.specs.declared.refusal.Refusal.TheVariants.{QuantIndex, TileOutside, QualityIndex}
use Rattle.gfx_base.specs.Results.{◌>>=◌, check}
use Rattle.gfx_dwt.specs.declared.layout.Transform.{Transform}
use Rattle.gfx_dwt.specs.declared.layout.Transform.TheVariants.{Plain, Reduced}
use Rattle.gfx_quant.specs.declared.quant.Component.{Component}
use Rattle.gfx_quant.specs.declared.quant.Component.TheVariants.{Y, Cb, Cr}
use Rattle.gfx_quant.specs.Quant.{quant_values, is_base, noughts}
use Rattle.gfx_prog_block.specs.declared.quants.PackedQuant.{PackedQuant}
use Rattle.gfx_prog_block.specs.declared.quants.RegionLevel.{RegionLevel}
use Rattle.gfx_prog_block.specs.declared.region.Region.{Region}
use Rattle.gfx_prog_block.specs.declared.region.TheConstants.{TILE_SIZE, REDUCED}
use Rattle.gfx_prog_block.specs.declared.tile.TheConstants.{NO_QUALITY}
use Rattle.gfx_prog_block.specs.declared.tile.TileHead.{TileHead}
use Rattle.gfx_prog_block.specs.Shapes.{quant_digits}

-- the transform of a pass, and of each component's bands the bit position
pub record Coding : Type 0 where
  pub transform : Transform
  pub y : List ℕ
  pub cb : List ℕ
  pub cr : List ℕ

-- the bit positions of a component
abbrev pub positions_in : Coding → Component → List ℕ
positions_in coding Y = coding.y
positions_in coding Cb = coding.cb
positions_in coding Cr = coding.cr

-- a number for each band of a component
pub record Numbers : Type 0 where
  pub y : List ℕ
  pub cb : List ℕ
  pub cr : List ℕ

-- the numbers that a quant's bytes spell
abbrev pub unpacked : PackedQuant → List ℕ
unpacked packed = quant_values (quant_digits packed)

-- each quant may be a base
abbrev pub are_bases : List PackedQuant → Bool
are_bases quants = list_all (λ packed. is_base (unpacked packed)) quants

-- the base of this index
unfoldable pub base_at : List PackedQuant → ℕ → Result (List ℕ) Refusal
base_at quants index = do
  packed ← ok_or (slice_get quants index) QuantIndex
  Ok (unpacked packed)

-- the bases of a tile
unfoldable pub bases_of : List PackedQuant → TileHead → Result Numbers Refusal
bases_of quants head = do
  y ← base_at quants head.quant_y
  cb ← base_at quants head.quant_cb
  cr ← base_at quants head.quant_cr
  Ok (record { y = y; cb = cb; cr = cr })

-- what a level leaves out
abbrev pub left_by : RegionLevel → Numbers
left_by level = record { y = unpacked level.y; cb = unpacked level.cb; cr = unpacked level.cr }

-- what a quality leaves out: that of no level is nothing
unfoldable pub left_at : List RegionLevel → ℕ → Result Numbers Refusal
left_at levels quality =
    if quality == NO_QUALITY then Ok (record { y = noughts; cb = noughts; cr = noughts }) else do
      level ← ok_or (slice_get levels quality) QualityIndex
      Ok (left_by level)

-- two numbers for each band, together
unfoldable pub together : List ℕ → List ℕ → List ℕ
together [] more = []
together (n ∷ ns) [] = []
together (n ∷ ns) (m ∷ more) = (n + m) ∷ together ns more

abbrev pub transform_by : ℕ → Transform
transform_by flags = if flags % 2 == REDUCED then Reduced else Plain

-- the cell in this column and row begins on a picture of these sides
abbrev pub begins_in : ℕ → ℕ → ℕ → ℕ → Bool
begins_in width height x y = nat_lt (TILE_SIZE * x) width && nat_lt (TILE_SIZE * y) height

-- the coding of a tile on a picture of these sides
unfoldable pub coding_of : Region → ℕ → ℕ → TileHead → ℕ → Result Coding Refusal
coding_of region width height head quality = do
  base ← bases_of region.quants head
  inside ← check TileOutside (begins_in width height head.x_idx head.y_idx)
  left ← left_at region.levels quality
  Ok (record { transform = transform_by region.flags; y = together base.y left.y; cb = together base.cb left.cb; cr = together base.cr left.cr })
