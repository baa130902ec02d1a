-- Where on the surfaces a step writes: this project's own rule.
use Rattle.std.specs.Prelude.{ℕ, ◌^◌, List, [], ◌∷◌, map, Option, Some, None, option_map, if◌then◌else◌}
use Rattle.std.specs.List.{slice_get}
use Rattle.std.specs.Result.{result_ok}
use Rattle.gfx_base.specs.declared.geometry.Point.{Point}
use Rattle.gfx_base.specs.declared.geometry.Rect.{Rect}
use Rattle.gfx_base.specs.Geometry.{moved, sized}
use Rattle.gfx_script.specs.declared.picture.Picture.{Picture}
use Rattle.gfx_script.specs.declared.step.Kind.{Kind}
use Rattle.gfx_script.specs.declared.step.Step.{Step}
use Rattle.gfx_script.specs.declared.step.Step.TheVariants.{Surface, Fill, Copy, Show, Paint, Improve}
use Rattle.gfx_script.specs.declared.held.Sides.{Sides}
use Rattle.gfx_script.specs.Kinds.{is_plain_write}
use Rattle.gfx_script.specs.Scripted.{Script}
use Rattle.gfx_script.specs.Stock.{Stock, bitmap_sides}

-- rectangles of one surface
pub record Area : Type 0 where
  pub surface : ℕ
  pub rects : List Rect

abbrev pub area : ℕ → List Rect → Area
area surface rects = record { surface = surface; rects = rects }

-- the rectangles of these sides whose top left corners are points
abbrev pub at_each : List Point → Rect → List Rect
at_each points rect = map (moved rect) points

-- where a picture lies, its top left corner at a place
abbrev pub place_of : Picture → Point → Rect
place_of picture at = moved (sized picture.width picture.height) at

-- a rectangle that has each place of each surface
abbrev pub everywhere : Rect
everywhere = record { left = 0; top = 0; right = 2 ^ 16; bottom = 2 ^ 16 }

-- where a step writes, if it writes, by the sides of the bitmaps that are kept: a surface that is made is written
-- whole, and one that is improved may be written anywhere
unfoldable pub writes_by : Script → (ℕ → Option Sides) → Step → Option Area
writes_by script sides_of (Surface id width height format) = Some (area id (sized width height ∷ []))
writes_by script sides_of (Fill id colour rects) = Some (area id rects)
writes_by script sides_of (Copy from to rect points) = Some (area to (at_each points rect))
writes_by script sides_of (Show key to points) =
    option_map (λ sides. area to (at_each points (sized sides.width sides.height))) (sides_of key)
writes_by script sides_of (Paint id picture at named glyph) =
    option_map (λ source. area id (place_of source at ∷ [])) (slice_get script.pictures picture)
writes_by script sides_of (Improve id) = Some (area id (everywhere ∷ []))
writes_by script sides_of step = None

-- the same on the bitmaps of a stock
abbrev pub writes : Script → Stock → Step → Option Area
writes script stock step = writes_by script (λ key. result_ok (bitmap_sides stock key)) step

-- where a paint writes that sets the pixels of its picture and nothing else
unfoldable pub paints_plainly : Kind → Option Picture → ℕ → Point → Option Area
paints_plainly kind source id at =
    if is_plain_write kind then option_map (λ source. area id (place_of source at ∷ [])) source else None

-- where a plain write writes, which needs no bitmap: a fill, or such a paint
unfoldable pub writes_plainly : Script → Option Kind → Step → Option Area
writes_plainly script kind (Fill id colour rects) = Some (area id rects)
writes_plainly script (Some kind) (Paint id picture at named glyph) = paints_plainly kind (slice_get script.pictures picture) id at
writes_plainly script kind step = None
