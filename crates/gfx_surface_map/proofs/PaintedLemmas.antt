-- What painting keeps.
use Rattle.std.proofs.Common.{◌≡◌, ◌∙◌, ◌<◌, ℕ, IsTrue, ap, sym, subst, refl, length, slice_index_or, List, [], ◌∷◌}
use Rattle.gfx_base.specs.declared.geometry.Rect.{Rect}
use Rattle.gfx_base.specs.declared.pixel.Pixel.{Pixel}
use Rattle.gfx_base.specs.Geometry.{lies_in}
use Rattle.gfx_surface.specs.Picture.{Picture, IsPicture, filled}
use Rattle.gfx_surface.proofs.PictureLemmas.{filled-width, filled-height, filled-format, filled_is_picture}
use Rattle.gfx_surface_map.specs.Surfaces.{painted, AllLieIn}

pub painted-width : (picture : Picture) (rects : List Rect) (colour : Pixel) → (painted picture rects colour).width ≡ picture.width
painted-width picture [] colour = refl
painted-width picture (rect ∷ rects) colour = painted-width (filled picture rect colour) rects colour ∙ filled-width picture rect colour

pub painted-height : (picture : Picture) (rects : List Rect) (colour : Pixel) → (painted picture rects colour).height ≡ picture.height
painted-height picture [] colour = refl
painted-height picture (rect ∷ rects) colour = painted-height (filled picture rect colour) rects colour ∙ filled-height picture rect colour

pub painted-format : (picture : Picture) (rects : List Rect) (colour : Pixel) → (painted picture rects colour).format ≡ picture.format
painted-format picture [] colour = refl
painted-format picture (rect ∷ rects) colour = painted-format (filled picture rect colour) rects colour ∙ filled-format picture rect colour

pub painted_is_picture : (picture : Picture) (rects : List Rect) (colour : Pixel) → IsPicture picture → IsPicture (painted picture rects colour)
painted_is_picture picture [] colour shape = shape
painted_is_picture picture (rect ∷ rects) colour shape = painted_is_picture (filled picture rect colour) rects colour (filled_is_picture picture rect colour shape)

-- rectangles that lie on a picture lie on what was painted of it
pub lies_in-painted : (picture now : Picture) (done rects : List Rect) (colour : Pixel) (n : ℕ) (d : Rect) → AllLieIn picture rects
    → now ≡ painted picture done colour → n < length rects → IsTrue (lies_in now.width now.height (slice_index_or rects n d))
lies_in-painted picture now done rects colour n d all is below =
    let wide : picture.width ≡ now.width = sym (ap (λ (p : Picture). p.width) is ∙ painted-width picture done colour) in
    let high : picture.height ≡ now.height = sym (ap (λ (p : Picture). p.height) is ∙ painted-height picture done colour) in
    subst IsTrue (λ i. lies_in (wide i) (high i) (slice_index_or rects n d)) (all n d below)
