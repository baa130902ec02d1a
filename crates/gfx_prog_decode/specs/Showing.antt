-- A tile drawn on a picture ([MS-RDPEGFX] 3.2.8: the pixels of its cell that lie in a rectangle of the region).
use Rattle.std.specs.Prelude.{ℕ, min, ◌+◌, ◌-◌, ◌*◌, Bool, ◌&&◌, nat_le, nat_lt, List, if◌then◌else◌}
use Rattle.std.specs.List.{list_any}
use Rattle.gfx_base.specs.declared.geometry.Rect.{Rect}
use Rattle.gfx_base.specs.declared.pixel.Pixel.{Pixel}
use Rattle.gfx_base.specs.Geometry.{holds}
use Rattle.gfx_prog_block.specs.declared.area.Area.{Area}
use Rattle.gfx_prog_block.specs.declared.region.TheConstants.{TILE_SIZE}
use Rattle.gfx_surface.specs.Picture.{Picture, pixel_at, redrawn, shade}
use Rattle.gfx_tile_state.specs.declared.state.TileState.{TileState}
use Rattle.gfx_tile_state.specs.Record.{pixel_of}
use Rattle.gfx_prog_decode.specs.declared.key.Key.{Key}

-- what of a key's cell lies in an area of these sides
abbrev pub cell_in : ℕ → ℕ → Key → Rect
cell_in width height key = record {
  left = TILE_SIZE * key.x;
  top = TILE_SIZE * key.y;
  right = min (TILE_SIZE * key.x + TILE_SIZE) width;
  bottom = min (TILE_SIZE * key.y + TILE_SIZE) height;
}

-- a rectangle of a region has the pixel at column x of row y
abbrev pub has_pixel : ℕ → ℕ → Area → Bool
has_pixel x y area = nat_le area.x x && nat_lt x (area.x + area.width) && nat_le area.y y && nat_lt y (area.y + area.height)

-- one of them has it
abbrev pub covered : List Area → ℕ → ℕ → Bool
covered areas x y = list_any (has_pixel x y) areas

-- the pixel of a record at column x of row y of the picture
abbrev pub tile_pixel : Picture → Key → TileState → ℕ → ℕ → Pixel
tile_pixel picture key tile x y = shade picture.format (pixel_of tile (y - TILE_SIZE * key.y) (x - TILE_SIZE * key.x))

-- a picture with a record's tile drawn where rectangles have it
unfoldable pub shown_in : Picture → Key → List Area → TileState → Picture
shown_in picture key areas tile =
    redrawn picture (λ x y. if holds (cell_in picture.width picture.height key) x y && covered areas x y then tile_pixel picture key tile x y else pixel_at picture x y)
