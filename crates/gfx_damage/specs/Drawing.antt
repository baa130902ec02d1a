-- What a message draws, as the code holds it until the message is applied.
use Rattle.std.specs.Prelude.{◌≡◌, ℕ, List, [], ◌∷◌, map, Option, Some, None}
use Rattle.std.specs.List.{flat_map}
use Rattle.std.specs.Option.{option_map}
use Rattle.gfx_base.specs.Geometry.{moved}
use Rattle.gfx_base.specs.declared.geometry.Rect.{Rect}
use Rattle.gfx_state.specs.Written.{areas_in, clipped, rect_of_area}
use Rattle.gfx_surface.specs.Picture.{Picture}
use Rattle.gfx_damage.specs.declared.adding.Sides.{Sides}
use Rattle.gfx_damage.specs.declared.drawing.Drawing.{Drawing}
use Rattle.gfx_damage.specs.declared.drawing.Drawn.{Drawn}
use Rattle.gfx_damage.specs.declared.drawing.Drawn.TheVariants.{One, Rects, Copies, Regions}

-- the rectangles that are drawn
abbrev pub rects_drawn : Drawn → List Rect
rects_drawn (One rect) = rect ∷ []
rects_drawn (Rects rects) = rects.now
rects_drawn (Copies rect points) = map (moved rect) points.now
rects_drawn (Regions blocks) = map rect_of_area (flat_map areas_in blocks)

-- the id of the surface, and what of them lies on it
abbrev pub drawn_by : Drawing → ℕ × List Rect
drawn_by drawing = (drawing.surface, map (clipped drawing.sides.width drawing.sides.height) (rects_drawn drawing.drawn))

abbrev pub drawing_in : Option Drawing → Option (ℕ × List Rect)
drawing_in found = option_map drawn_by found

-- the sides of a surface that was found
pub record AreOf (sides : Sides) (found : Option Picture) : Type 0 where
  pub picture : Picture
  pub is_there : found ≡ Some picture
  pub width : sides.width ≡ picture.width
  pub height : sides.height ≡ picture.height

abbrev pub AreSides : Option Sides → Option Picture → Type 0
AreSides None found = found ≡ None
AreSides (Some sides) found = AreOf sides found
