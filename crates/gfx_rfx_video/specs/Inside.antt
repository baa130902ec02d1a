-- What the calls between a message and its pixels hand on.
use Rattle.std.specs.Prelude.{◌≡◌, ◌≤◌, ◌<◌, ℕ, ◌+◌, ◌-◌, ◌*◌, ◌%◌, ◌==◌, min, max, nat_le, nat_lt, Bool, ◌&&◌, IsTrue, List, Some, slice_get}
use Rattle.std.specs.List.{list_any, slice_index_or}
use Rattle.gfx_base.specs.declared.format.Format.TheVariants.{Argb}
use Rattle.gfx_base.specs.declared.geometry.Point.{Point}
use Rattle.gfx_base.specs.declared.geometry.Rect.{Rect}
use Rattle.gfx_base.specs.declared.pixel.Pixel.{Pixel}
use Rattle.gfx_base.specs.Geometry.{holds, lies_in, width_of, height_of}
use Rattle.gfx_quant.specs.declared.setting.Level.{Level}
use Rattle.gfx_quant.specs.Quant.{is_base}
use Rattle.gfx_surface.specs.Picture.{Picture, no_pixel, pixel_at}
use Rattle.gfx_prog_block.specs.declared.area.Area.{Area}
use Rattle.gfx_rfx_video.specs.declared.planes.Planes.{Planes}
use Rattle.gfx_prog_block.specs.declared.tile.TileHead.{TileHead}
use Rattle.gfx_rfx_video.specs.Tiles.{Bases, pixel_of}

-- ---- a tile's planes

-- the numbers of the bases of three components
abbrev pub bases_seen : Level → Bases
bases_seen level = record { y = level.y.values; cb = level.cb.values; cr = level.cr.values }

-- each component's numbers may be bases
pub record HaveBases (level : Level) : Type 0 where
  pub y : IsTrue (is_base level.y.values)
  pub cb : IsTrue (is_base level.cb.values)
  pub cr : IsTrue (is_base level.cr.values)

-- these are the pixels of a tile, row by row
abbrev pub ArePixels : Planes → List Pixel → Type 0
ArePixels planes pixels = (y x : ℕ) → y < 64 → x < 64 → slice_get pixels (y * 64 + x) ≡ Some (pixel_of planes y x)

-- ---- where a tile is drawn

-- the left top corner of a rectangle
abbrev pub corner_of : Rect → Point
corner_of rect = record { x = rect.left; y = rect.top }

-- a tile begins in a rectangle
abbrev pub begins_in : Rect → TileHead → Bool
begins_in rect head = nat_lt (64 * head.x_idx) (width_of rect) && nat_lt (64 * head.y_idx) (height_of rect)

-- an area of a region on the surface, by the corner that it is taken from; no surface reaches past 65,535
abbrev pub placed : Point → Area → Rect
placed corner area = record {
  left = min (corner.x + area.x) 65535;
  top = min (corner.y + area.y) 65535;
  right = min (min (corner.x + area.x) 65535 + area.width) 65535;
  bottom = min (min (corner.y + area.y) 65535 + area.height) 65535;
}

-- one of these areas has the pixel at column x of row y of the surface
abbrev pub painted_at : Point → List Area → ℕ → ℕ → Bool
painted_at corner areas x y = list_any (λ area. holds (placed corner area) x y) areas

-- what two rectangles share; it may be upside down
abbrev pub overlap : Rect → Rect → Rect
overlap one other = record {
  left = max one.left other.left;
  top = max one.top other.top;
  right = min one.right other.right;
  bottom = min one.bottom other.bottom;
}

-- a rectangle has all of another
abbrev pub has_all : Rect → Rect → Bool
has_all outer inner =
    nat_le outer.left inner.left && nat_le inner.right outer.right && nat_le outer.top inner.top && nat_le inner.bottom outer.bottom

-- a rectangle is a whole cell of a surface
abbrev pub is_whole_cell : Rect → Bool
is_whole_cell rect = (rect.left % 64 == 0) && ((rect.top % 64 == 0) && ((width_of rect == 64) && (height_of rect == 64)))

-- one of these areas has all of a rectangle
abbrev pub is_in_one : Point → List Area → Rect → Bool
is_in_one corner areas rect = list_any (λ area. has_all (placed corner area) rect) areas

-- a surface of one tile
pub record IsCanvas (picture : Picture) : Type 0 where
  pub width : picture.width ≡ 64
  pub height : picture.height ≡ 64
  pub format : picture.format ≡ Argb

-- the pixel of a canvas that stands at a point
abbrev pub canvas_pixel : Picture → Point → ℕ → ℕ → Pixel
canvas_pixel canvas at x y = pixel_at canvas (x - at.x) (y - at.y)

-- the pixel of 64 rows of 64 that stand at a point
abbrev pub tile_pixel : List Pixel → Point → ℕ → ℕ → Pixel
tile_pixel pixels at x y = slice_index_or pixels ((y - at.y) * 64 + (x - at.x)) no_pixel

-- a part of a tile that stands at a point: it lies on the picture, and within 64 columns and rows from the point
pub record IsPart (picture : Picture) (at : Point) (part : Rect) : Type 0 where
  pub inside : IsTrue (lies_in picture.width picture.height part)
  pub behind : at.x ≤ part.left
  pub below : at.y ≤ part.top
  pub narrow : part.right ≤ at.x + 64
  pub low : part.bottom ≤ at.y + 64
  pub wide : part.right ≤ 8192
  pub high : part.bottom ≤ 8192
