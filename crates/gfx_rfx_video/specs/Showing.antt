-- A tile drawn on a picture: where it stands ([MS-RDPRFX] 2.2.2.3.4.1, TS_RFX_TILE), and which of its pixels change
-- (2.2.2.3.3, TS_RFX_REGION).
use Rattle.std.specs.Prelude.{ℕ, min, ◌+◌, ◌-◌, ◌*◌, Bool, ◌&&◌, nat_le, nat_lt, List, [], ◌∷◌, if◌then◌else◌}
use Rattle.std.specs.List.{list_any}
use Rattle.gfx_base.specs.declared.geometry.Rect.{Rect}
use Rattle.gfx_base.specs.declared.geometry.TheConstants.{CELL_SIDE}
use Rattle.gfx_base.specs.declared.pixel.Pixel.{Pixel}
use Rattle.gfx_base.specs.Geometry.{holds, width_of, height_of}
use Rattle.gfx_surface.specs.Picture.{Picture, pixel_at, redrawn, shade}
use Rattle.gfx_prog_block.specs.declared.area.Area.{Area}
use Rattle.gfx_rfx_video.specs.declared.planes.Planes.{Planes}
use Rattle.gfx_prog_block.specs.declared.tile.TileHead.{TileHead}
use Rattle.gfx_rfx_video.specs.Tiles.{pixel_of}

-- a picture with other colours where a test holds, as its format keeps them
abbrev pub drawn_where : (ℕ → ℕ → Bool) → (ℕ → ℕ → Pixel) → Picture → Picture
drawn_where test colour picture =
    redrawn picture (λ x y. if test x y then shade picture.format (colour x y) else pixel_at picture x y)

-- a rectangle of a region has the pixel at column x of row y
abbrev pub has_pixel : ℕ → ℕ → Area → Bool
has_pixel x y area = nat_le area.x x && nat_lt x (area.x + area.width) && nat_le area.y y && nat_lt y (area.y + area.height)

-- one of them has it
abbrev pub covered : List Area → ℕ → ℕ → Bool
covered areas x y = list_any (has_pixel x y) areas

-- the rectangles that tiles may paint, from the corner of the message's: those of the region, or all of it
abbrev pub open_areas : Rect → List Area → List Area
open_areas rect [] = record { x = 0; y = 0; width = width_of rect; height = height_of rect } ∷ []
open_areas rect (area ∷ areas) = area ∷ areas

-- what of a tile lies in the message's rectangle: it stands at 64 times its indices from that one's corner
abbrev pub tile_in : Rect → TileHead → Rect
tile_in rect head = record {
  left = rect.left + CELL_SIDE * head.x_idx;
  top = rect.top + CELL_SIDE * head.y_idx;
  right = min (rect.left + CELL_SIDE * head.x_idx + CELL_SIDE) rect.right;
  bottom = min (rect.top + CELL_SIDE * head.y_idx + CELL_SIDE) rect.bottom;
}

-- the pixels of a tile that change
abbrev pub changes : Rect → List Area → TileHead → ℕ → ℕ → Bool
changes rect areas head x y = holds (tile_in rect head) x y && covered areas (x - rect.left) (y - rect.top)

-- a picture with a tile drawn
unfoldable pub shown_in : Rect → List Area → TileHead → Planes → Picture → Picture
shown_in rect areas head planes picture =
    drawn_where (changes rect areas head) (λ x y. pixel_of planes (y - (tile_in rect head).top) (x - (tile_in rect head).left)) picture
