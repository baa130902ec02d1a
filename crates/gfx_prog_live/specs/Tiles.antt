-- The tile of a cell that a picture is painted on: this project's own rule.
use Prim.Native.Nat.{suc}
use Rattle.std.specs.Prelude.{ℕ, ◌+◌, ◌-◌, ◌*◌, ◌==◌, ◌+ℤ◌, Bool, ◌&&◌, max, min, List, [], ◌∷◌, length, Option, Some, None, if◌then◌else◌}
use Rattle.std.specs.List.{list_all}
use Rattle.gfx_base.specs.declared.geometry.Cell.{Cell}
use Rattle.gfx_base.specs.declared.geometry.Rect.{Rect}
use Rattle.gfx_base.specs.declared.geometry.TheConstants.{CELL_SIDE}
use Rattle.gfx_base.specs.declared.pixel.Pixel.{Pixel}
use Rattle.gfx_dwt.specs.Ranges.{at}
use Rattle.gfx_quant.specs.declared.quant.Component.TheVariants.{Y, Cb, Cr}
use Rattle.gfx_quant.specs.Coefficient.{is_coefficient}
use Rattle.gfx_quant.specs.Setting.{all_below}
use Rattle.gfx_prog_encode.specs.declared.send.TileSend.{TileSend}
use Rattle.gfx_script.specs.declared.picture.Picture.{Picture}
use Rattle.gfx_script.specs.Patterns.{pixel_of}
use Rattle.gfx_surface.specs.Picture.{drawn}
use Rattle.gfx_tile_make.specs.Levels.{record_at}
use Rattle.gfx_tile_make.specs.Source.{SourceTile, difference_of}
use Rattle.gfx_tile_state.specs.Passes.{Part}

-- the place of a picture that is nearest to a coordinate, where the picture begins and ends at these
abbrev pub nearest : ℕ → ℕ → ℕ → ℕ
nearest from to at = max from (min at (to - 1)) - from

-- the pixels of a cell, of a picture in a rectangle: outside of it those of the nearest place
unfoldable pub cell_pixels : Picture → Rect → Cell → List Pixel
cell_pixels picture rect cell = drawn CELL_SIDE CELL_SIDE (λ i j.
    pixel_of picture (nearest rect.left rect.right (CELL_SIDE * cell.x + i)) (nearest rect.top rect.bottom (CELL_SIDE * cell.y + j)))

-- the sums of a record, and what they make of its kept plane, are in the 16-bit range
abbrev pub stays_within : Part → Bool
stays_within part = all_below 4096 (λ k. is_coefficient (at part.sums k) && is_coefficient (at part.kept k +ℤ at part.sums k))

-- so it is with each component of a tile, at each level
unfoldable pub is_in_range : SourceTile → Bool
is_in_range tile =
    list_all (λ component. all_below (suc (length tile.setting.levels)) (λ level. stays_within (record_at tile component level))) (Y ∷ Cb ∷ Cr ∷ [])

-- a tile goes on the one before it in its cell, where the script lets it, that one is at the last level, and what is
-- sent then stays in range
unfoldable pub gone_on : Bool → Option TileSend → SourceTile → SourceTile
gone_on differences None tile = tile
gone_on differences (Some old) tile =
    if differences && (old.level == length old.tile.setting.levels) && is_in_range (difference_of tile old.tile) then difference_of tile old.tile else tile
