-- Rectangles and pixels ([MS-RDPEGFX], RDPGFX_RECT16 and RDPGFX_COLOR32).
use Rattle.std.specs.Prelude.{ℕ, ◌+◌, ◌-◌, ◌<◌, ◌^◌, Bool, ◌&&◌, nat_le, nat_lt, List}
use Rattle.std.specs.List.{list_all}
use Rattle.gfx_base.specs.declared.geometry.Point.{Point}
use Rattle.gfx_base.specs.declared.geometry.Rect.{Rect}
use Rattle.gfx_base.specs.declared.pixel.Pixel.{Pixel}

-- the rectangle, which may be empty, lies in an area of these sides
abbrev pub lies_in : ℕ → ℕ → Rect → Bool
lies_in width height rect =
    nat_le rect.left rect.right && nat_le rect.right width
    && nat_le rect.top rect.bottom && nat_le rect.bottom height

abbrev pub width_of : Rect → ℕ
width_of rect = rect.right - rect.left

abbrev pub height_of : Rect → ℕ
height_of rect = rect.bottom - rect.top

-- the rectangle has the pixel at column x of row y
abbrev pub holds : Rect → ℕ → ℕ → Bool
holds rect x y = nat_le rect.left x && nat_lt x rect.right && nat_le rect.top y && nat_lt y rect.bottom

-- the rectangle of these sides that begins at the top left
abbrev pub sized : ℕ → ℕ → Rect
sized width height = record { left = 0; top = 0; right = width; bottom = height }

-- the rectangle whose left and top sides are taken to a point
abbrev pub moved : Rect → Point → Rect
moved rect to = record { left = to.x; top = to.y; right = to.x + width_of rect; bottom = to.y + height_of rect }

-- the rectangle lies in an area of these sides at each point
abbrev pub fit_all : ℕ → ℕ → Rect → List Point → Bool
fit_all width height rect points = list_all (λ point. lies_in width height (moved rect point)) points

-- the numbers fit their fields on the wire
pub record IsRect (rect : Rect) : Type 0 where
  pub left : rect.left < 2 ^ 16
  pub top : rect.top < 2 ^ 16
  pub right : rect.right < 2 ^ 16
  pub bottom : rect.bottom < 2 ^ 16

pub record IsPoint (point : Point) : Type 0 where
  pub x : point.x < 2 ^ 16
  pub y : point.y < 2 ^ 16

pub record IsPixel (pixel : Pixel) : Type 0 where
  pub b : pixel.b < 2 ^ 8
  pub g : pixel.g < 2 ^ 8
  pub r : pixel.r < 2 ^ 8
  pub a : pixel.a < 2 ^ 8
