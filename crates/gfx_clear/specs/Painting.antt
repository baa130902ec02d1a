-- A ClearCodec stream on a surface ([MS-RDPEGFX] 2.2.2.1, codec 8). That what is drawn is opaque, and what isn't
-- stays with its alpha, is this project's own rule.
use Rattle.std.specs.Prelude.{ℕ, Bool, true, false, List, [], ◌∷◌, map, Result, Ok}
use Rattle.gfx_base.specs.Colour.{colour_of, opaque}
use Rattle.gfx_base.specs.declared.geometry.Rect.{Rect}
use Rattle.gfx_base.specs.declared.pixel.Pixel.{Pixel}
use Rattle.gfx_base.specs.declared.pixel.Rgb.{Rgb}
use Rattle.gfx_base.specs.declared.refusal.Refusal.{Refusal}
use Rattle.gfx_base.specs.Geometry.{width_of, height_of}
use Rattle.gfx_base.specs.Results.{◌>>=◌}
use Rattle.gfx_surface.specs.Picture.{Picture, overlaid, rect_of}
use Rattle.gfx_clear.specs.State.{ClearState}
use Rattle.gfx_clear.specs.Clear.{Cleared, clear}

-- pixels with the colours that are drawn over them
unfoldable pub drawn_over : List Pixel → List Rgb → List Bool → List Pixel
drawn_over (p ∷ ps) (colour ∷ colours) (true ∷ drawn) = opaque colour ∷ drawn_over ps colours drawn
drawn_over (p ∷ ps) (colour ∷ colours) (false ∷ drawn) = p ∷ drawn_over ps colours drawn
drawn_over ps colours drawn = []

-- a decoder's state, and the surface that it draws on
pub record Scene : Type 0 where
  pub state : ClearState
  pub picture : Picture

abbrev pub scene : ClearState → Picture → Scene
scene state picture = record { state = state; picture = picture }

-- a picture once a stream has drawn in a rectangle
abbrev pub painted : Picture → Rect → Cleared → Picture
painted picture rect new = overlaid picture rect (drawn_over (rect_of picture rect) new.colours new.drawn)

-- both, once a stream for a rectangle is decoded
unfoldable pub decoded : Scene → Rect → List ℕ → Result Scene Refusal
decoded old rect bytes = do
  new ← clear old.state (width_of rect) (height_of rect) (map colour_of (rect_of old.picture rect)) bytes
  Ok (scene new.state (painted old.picture rect new))
