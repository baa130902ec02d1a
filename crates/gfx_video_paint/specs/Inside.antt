-- What the calls between hand on.
use Rattle.std.specs.Prelude.{◌≡◌, ℕ, true}
use Rattle.gfx_base.specs.Cells.{has_pixels}
use Rattle.gfx_script.specs.declared.picture.Picture.{Picture as Drawing}
use Rattle.gfx_video_paint.specs.Video.{laid}

-- a picture of these sides
pub record HasSides (width height : ℕ) (picture : Drawing) : Type 0 where
  pub across : picture.width ≡ width
  pub down : picture.height ≡ height

-- a picture with pixels
abbrev pub HasSome : Drawing → Type 0
HasSome picture = has_pixels (laid picture) ≡ true
