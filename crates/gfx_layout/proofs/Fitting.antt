-- Parts that fit, in the words of rectangles and points.
use Rattle.std.proofs.Common.{List, [], ◌∷◌}
use Rattle.std.specs.List.{AllByRecursion}
use Rattle.gfx_base.specs.Geometry.{IsPoint, IsRect}
use Rattle.gfx_base.specs.declared.geometry.Point.{Point}
use Rattle.gfx_base.specs.declared.geometry.Rect.{Rect}
use Rattle.gfx_layout.specs.Shape.{PartFits}
use Rattle.gfx_layout.specs.Shapes.{point, rect}

pub rect_fits : (r : Rect) → IsRect r → PartFits rect r
rect_fits r fits = (fits.left, (fits.top, (fits.right, (fits.bottom, tt))))

pub is_rect : (r : Rect) → PartFits rect r → IsRect r
is_rect r fits = record { left = fits.0; top = fits.1.0; right = fits.1.1.0; bottom = fits.1.1.1.0 }

pub point_fits : (p : Point) → IsPoint p → PartFits point p
point_fits p fits = (fits.x, (fits.y, tt))

pub is_point : (p : Point) → PartFits point p → IsPoint p
is_point p fits = record { x = fits.0; y = fits.1.0 }

-- so of all of a list
pub all_so : {T : Type 0} (P Q : T → Type 0) → ((x : T) → P x → Q x) → (xs : List T) → AllByRecursion P xs → AllByRecursion Q xs
all_so P Q so [] all = tt
all_so P Q so (x ∷ xs) all = (so x all.0, all_so P Q so xs all.1)
