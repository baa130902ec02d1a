-- What a canvas shows.
use Rattle.std.proofs.Common.{◌≡◌, ◌≢◌, eq-eqb, ne_eqb, ℕ, suc, ◌+◌, ◌<◌, true, false, List, [], ◌∷◌, ◌++◌, length, map, take, drop, replicate, get_or, set, refl, sym, ap, ◌∙◌, arith}
use Rattle.std.proofs.lemmas.List.{map-append, take-map, drop-map, length-map, get_or-map}
use Rattle.gfx_base.specs.declared.geometry.Rect.{Rect}
use Rattle.gfx_base.specs.declared.pixel.Pixel.{Pixel}
use Rattle.gfx_base.specs.declared.pixel.Rgb.{Rgb}
use Rattle.gfx_base.specs.Geometry.{width_of, height_of}
use Rattle.gfx_surface.specs.Picture.{Picture, rect_of}
use Rattle.gfx_clear_store.specs.Rings.{Rings}
use Rattle.gfx_clear_bands.specs.Bands.{drawing}
use Rattle.gfx_clear_bands.specs.Canvas.{is_drawn, on_canvas}
use Rattle.gfx_clear.specs.Parts.{Parts}
use Rattle.gfx_clear.specs.Subcodecs.{overwritten, row_drawn}
use Rattle.gfx_clear.specs.Clear.{layered, undrawn}
use Rattle.gfx_clear.specs.Painting.{drawn_over}
use Rattle.gfx_base.specs.Colour.{colour_of, opaque}
use Rattle.gfx_clear.specs.Canvas.{blank}
use Rattle.gfx_clear.proofs.DrawnOver.{Over, over_drawn, over_kept}

-- the colours of opaque pixels
pub colours_back : (pixels : List Rgb) → map colour_of (map opaque pixels) ≡ pixels
colours_back [] = refl
colours_back (c ∷ cs) = ap (λ z. c ∷ z) (colours_back cs)

flags_back : (pixels : List Rgb) → map is_drawn (map opaque pixels) ≡ replicate (length pixels) true
flags_back [] = refl
flags_back (c ∷ cs) = ap (λ z. true ∷ z) (flags_back cs)

-- opaque pixels are drawn
pub all_on_canvas : (pixels : List Rgb) (held : Rings) → on_canvas (map opaque pixels) held ≡ drawing pixels (replicate (length pixels) true) held
all_on_canvas pixels held = λ i. drawing (colours_back pixels i) (flags_back pixels i) held

blank_colours : (pixels : List Pixel) → map colour_of (map blank pixels) ≡ map colour_of pixels
blank_colours [] = refl
blank_colours (p ∷ ps) = ap (λ z. colour_of p ∷ z) (blank_colours ps)

blank_flags : (pixels : List Pixel) → map is_drawn (map blank pixels) ≡ replicate (length (map colour_of pixels)) false
blank_flags [] = refl
blank_flags (p ∷ ps) = ap (λ z. false ∷ z) (blank_flags ps)

-- and those of a background aren't
pub none_on_canvas : (pixels : List Pixel) (held : Rings) → on_canvas (map blank pixels) held ≡ undrawn (map colour_of pixels) held
none_on_canvas pixels held = λ i. drawing (blank_colours pixels i) (blank_flags pixels i) held

-- layers on a canvas that shows the background
pub layers_over : (picture : Picture) (rect : Rect) (width height : ℕ) (background canvas : List Pixel) (held : Rings) (ps : Parts) → width ≡ width_of rect → height ≡ height_of rect
    → background ≡ rect_of picture rect → canvas ≡ map blank background
    → layered width height (on_canvas canvas held) ps ≡ layered (width_of rect) (height_of rect) (undrawn (map colour_of (rect_of picture rect)) held) ps
layers_over picture rect width height background canvas held ps wide high same begun =
    (λ i. layered (wide i) (high i) (on_canvas ((begun ∙ ap (map blank) same) i) held) ps)
    ∙ ap (λ z. layered (width_of rect) (height_of rect) z ps) (none_on_canvas (rect_of picture rect) held)

map-overwritten : {B : Type 0} (f : Pixel → B) (at : ℕ) (items old : List Pixel) → map f (overwritten at items old) ≡ overwritten at (map f items) (map f old)
map-overwritten f at items old =
    map-append f (take at old) (items ++ drop (length items) (drop at old))
    ∙ (λ i. sym (take-map f at old) i ++ map-append f items (drop (length items) (drop at old)) i)
    ∙ ap (λ z. take at (map f old) ++ (map f items ++ z)) (sym (drop-map f (length items) (drop at old)) ∙ (λ i. drop (sym (length-map items f) i) (sym (drop-map f at old) i)))

-- a row that is drawn on it
pub row_on_canvas : (at : ℕ) (row : List Rgb) (old new : List Pixel) (held : Rings) → new ≡ overwritten at (map opaque row) old → on_canvas new held ≡ row_drawn at row (on_canvas old held)
row_on_canvas at row old new held e =
    ap (λ z. on_canvas z held) e
    ∙ (λ i. drawing
    ((map-overwritten colour_of at (map opaque row) old ∙ ap (λ z. overwritten at z (map colour_of old)) (colours_back row)) i)
    ((map-overwritten is_drawn at (map opaque row) old ∙ ap (λ z. overwritten at z (map is_drawn old)) (flags_back row)) i) held)

-- a pixel whose alpha says that it is drawn
is_opaque : (pixel : Pixel) → pixel.a ≡ 255 → pixel ≡ opaque (colour_of pixel)
is_opaque pixel e = λ i. record { b = pixel.b; g = pixel.g; r = pixel.r; a = e i }

-- it is drawn over the background
pub canvas_drawn : (old now canvas : List Pixel) (i : ℕ) (d : Pixel) → i < length old → length now ≡ length old → length canvas ≡ length old → (get_or canvas i d).a ≡ 255
    → Over old (map colour_of canvas) (map is_drawn canvas) i now → Over old (map colour_of canvas) (map is_drawn canvas) (i + 1) (set now i (get_or canvas i d))
canvas_drawn old now canvas i d within long same is over =
    over_drawn old now (map colour_of canvas) (map is_drawn canvas) i (get_or canvas i d) (colour_of d) false within long (length-map canvas colour_of ∙ same) (length-map canvas is_drawn ∙ same)
    (is_opaque (get_or canvas i d) is ∙ ap opaque (sym (get_or-map colour_of canvas i d (colour_of d) (omega arith))))
    (get_or-map is_drawn canvas i d false (omega arith) ∙ eq-eqb (get_or canvas i d).a 255 is) over

-- and another isn't
pub canvas_kept : (old now canvas : List Pixel) (i : ℕ) (d : Pixel) → i < length old → length now ≡ length old → length canvas ≡ length old → (get_or canvas i d).a ≢ 255
    → Over old (map colour_of canvas) (map is_drawn canvas) i now → Over old (map colour_of canvas) (map is_drawn canvas) (i + 1) now
canvas_kept old now canvas i d within long same is over =
    over_kept old now (map colour_of canvas) (map is_drawn canvas) i d false within long (length-map canvas colour_of ∙ same) (length-map canvas is_drawn ∙ same)
    (get_or-map is_drawn canvas i d false (omega arith) ∙ ne_eqb (get_or canvas i d).a 255 is) over

-- the first pixels are drawn
pub record AllDrawn (canvas : List Pixel) (n : ℕ) : Type 0 where
  pub all : (k : ℕ) (d : Pixel) → k < n → (get_or canvas k d).a ≡ 255

all_drawn_tail : (p : Pixel) (ps : List Pixel) → AllDrawn (p ∷ ps) (length (p ∷ ps)) → AllDrawn ps (length ps)
all_drawn_tail p ps all = record { all = λ k d less. all.all (suc k) d (omega arith) }

-- all of them cover what was there
pub all_over : (canvas pixels : List Pixel) → length pixels ≡ length canvas → AllDrawn canvas (length canvas) → drawn_over pixels (map colour_of canvas) (map is_drawn canvas) ≡ canvas
unfolding drawn_over
all_over [] [] e all = refl
all_over [] (q ∷ qs) e all = absurd (omega arith)
all_over (p ∷ ps) [] e all = absurd (omega arith)
all_over (p ∷ ps) (q ∷ qs) e all =
    let here : p.a ≡ 255 = all.all 0 p (omega arith) in
    ap (λ b. drawn_over (q ∷ qs) (colour_of p ∷ map colour_of ps) (b ∷ map is_drawn ps)) (eq-eqb p.a 255 here)
    ∙ (λ i. sym (is_opaque p here) i ∷ all_over ps qs (omega arith) (all_drawn_tail p ps all) i)
