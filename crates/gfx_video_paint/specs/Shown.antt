-- What a surface shows of a paint by RemoteFX video: this project's own rule.
use Rattle.std.specs.Prelude.{◌≡◌, ◌<◌, ◌≤◌, ◌^◌, ◌-◌, ◌/◌, ◌%◌, ℕ, length, Ok}
use Rattle.std.specs.List.{AllByRecursion}
use Rattle.gfx_base.specs.declared.geometry.Rect.{Rect}
use Rattle.gfx_base.specs.declared.geometry.TheConstants.{CELL_SIDE}
use Rattle.gfx_base.specs.declared.pixel.Pixel.{Pixel}
use Rattle.gfx_base.specs.Cells.{cell}
use Rattle.gfx_base.specs.Geometry.{height_of, holds, width_of}
use Rattle.gfx_quant.specs.declared.setting.Setting.{Setting}
use Rattle.gfx_quant.specs.Setting.{IsSetting}
use Rattle.gfx_rlgr.specs.declared.mode.Mode.{Mode}
use Rattle.gfx_script.specs.declared.picture.Picture.{Picture as Drawing}
use Rattle.gfx_surface.specs.Picture.{IsPicture, Picture}
use Rattle.gfx_tile_make.specs.Levels.{direct_pixel}
use Rattle.gfx_rfx_video.specs.Painted.{all_painted}
use Rattle.gfx_rfx_video.specs.Showing.{drawn_where}
use Rattle.gfx_rfx_video.specs.Video.{after_video, in_turn}
use Rattle.gfx_video_paint.specs.Inside.{HasSome}
use Rattle.gfx_video_paint.specs.Video.{video_payloads, video_tile, video_tiles}

-- a surface with a picture painted by video in a rectangle: Direct of each of its tiles, cut with the rectangle
unfoldable pub shown_as_video : Setting → Drawing → Rect → Picture → Picture
shown_as_video setting picture rect surface = all_painted rect (video_tiles setting picture) surface

-- the rectangle has the picture's sides
pub record IsFilled (picture : Drawing) (rect : Rect) : Type 0 where
  pub width : width_of rect ≡ picture.width
  pub height : height_of rect ≡ picture.height

-- the colour that a picture has as video at column x of row y: Direct of the tile of the square there
unfoldable pub video_pixel : Setting → Drawing → ℕ → ℕ → Pixel
video_pixel setting picture x y =
    direct_pixel (video_tile setting picture (cell (x / CELL_SIDE) (y / CELL_SIDE))).tile (y % CELL_SIDE) (x % CELL_SIDE)

-- the messages of a paint, applied one after another, show it
abbrev pub VideoPayloadsShow : Type 0
VideoPayloadsShow =
    (setting : Setting) (mode : Mode) (picture : Drawing) (next : ℕ) (rect : Rect) (surface : Picture) → IsSetting setting
    → picture.width < 2 ^ 16 → picture.height < 2 ^ 16 → HasSome picture → IsFilled picture rect
    → in_turn (after_video rect) (video_payloads setting mode picture next) surface ≡ Ok (shown_as_video setting picture rect surface)

-- each pixel of the rectangle gets its square's colour, as the surface's format keeps it; all others, the sides and the
-- format stay
abbrev pub VideoPaintsCover : Type 0
VideoPaintsCover =
    (setting : Setting) (picture : Drawing) (rect : Rect) (surface : Picture) → IsPicture surface → IsFilled picture rect
    → shown_as_video setting picture rect surface
    ≡ drawn_where (holds rect) (λ x y. video_pixel setting picture (x - rect.left) (y - rect.top)) surface

-- the data of each message are short
abbrev pub VideoPayloadsAreShort : Type 0
VideoPayloadsAreShort =
    (setting : Setting) (mode : Mode) (picture : Drawing) (next : ℕ) → IsSetting setting
    → AllByRecursion (λ payload. length payload ≤ 51000000) (video_payloads setting mode picture next)
