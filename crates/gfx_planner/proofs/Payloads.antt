-- The data of a picture, pixel by pixel.
use Rattle.std.proofs.Common.{◌≡◌, ℕ, ◌+◌, ◌*◌, ◌/◌, ◌<◌, ◌≤◌, List, [], ◌∷◌, ◌++◌, map, take, length, get_or, Option, Some, None, option_map, refl, sym, ap, ◌∙◌, subst, arith}
use Rattle.std.specs.Prelude.{IfSome}
use Rattle.std.proofs.lemmas.List.{take_more, take_all}
use Rattle.std.proofs.lemmas.Nat.{div-mul-add, div_below}
use Rattle.gfx_base.specs.declared.pixel.Pixel.{Pixel}
use Rattle.gfx_base.specs.declared.pixel.Rgb.{Rgb}
use Rattle.gfx_base.specs.Colour.{colour_of}
use Rattle.gfx_surface.specs.Picture.{no_pixel}
use Rattle.gfx_surface.proofs.PictureLemmas.{pixel_at-drawn}
use Rattle.gfx_script.specs.declared.picture.Picture.{Picture as Source}
use Rattle.gfx_script.specs.Patterns.{pixel_of}
use Rattle.gfx_planner.specs.Pixels.{pixels_in, colours_in}
use Rattle.gfx_planner.specs.PaintMessages.{raw_bytes}
use Rattle.gfx_planner.proofs.Paints.{length-pixels_in}

-- a pixel's four bytes
abbrev pub bytes_of : Pixel → List ℕ
bytes_of pixel = pixel.b ∷ pixel.g ∷ pixel.r ∷ pixel.a ∷ []

raw_bytes-one : (pixels : List Pixel) (pixel : Pixel) → raw_bytes (pixels ++ pixel ∷ []) ≡ raw_bytes pixels ++ bytes_of pixel
unfolding raw_bytes
raw_bytes-one [] pixel = refl
raw_bytes-one (p ∷ pixels) pixel = ap (λ z. p.b ∷ p.g ∷ p.r ∷ p.a ∷ z) (raw_bytes-one pixels pixel)

raw_bytes-none : raw_bytes [] ≡ []
unfolding raw_bytes
raw_bytes-none = refl

-- a place's row is one of those there
pub row_below : (x y k width height : ℕ) → y * width + x ≡ k → x < width → k < width * height → y < height
row_below x y k width height place column below =
    let some : 0 < width = omega arith in
    let row : k / width ≡ y = ap (λ n. n / width) (sym place) ∙ div-mul-add y width x column in
    subst (λ n. n < height) row (div_below k width height some (omega arith))

pixel_there : (one : Source) (x y k : ℕ) → y * one.width + x ≡ k → x < one.width → y < one.height → get_or (pixels_in one) k no_pixel ≡ pixel_of one x y
unfolding pixels_in
pixel_there one x y k place column row = ap (λ n. get_or (pixels_in one) n no_pixel) (sym place) ∙ pixel_at-drawn one.width one.height x y (pixel_of one) no_pixel column row

-- a picture's sides as a pair
abbrev pub sides : Source → ℕ × ℕ
sides one = (one.width, one.height)

-- one more pixel
next_pixel : (one : Source) (pixel : Pixel) (x y k width height : ℕ) → option_map sides (Some one) ≡ Some (width, height) → option_map (λ one. pixel_of one x y) (Some one) ≡ Some pixel
    → y * width + x ≡ k → x < width → k < width * height → take (k + 1) (pixels_in one) ≡ take k (pixels_in one) ++ pixel ∷ []
next_pixel one pixel x y k width height sized is place column below =
    let both : sides one ≡ (width, height) = cc in
    let wide : one.width ≡ width = ap (λ p. p.0) both in
    let high : one.height ≡ height = ap (λ p. p.1) both in
    let shows : pixel_of one x y ≡ pixel = cc in
    let row = row_below x y k width height place column below in
    let there : get_or (pixels_in one) k no_pixel ≡ pixel =
    pixel_there one x y k (ap (λ w. y * w + x) wide ∙ place) (subst (λ w. x < w) (sym wide) column) (subst (λ h. y < h) (sym high) row) ∙ shows in
    let within : k < length (pixels_in one) = subst (λ n. k < n) (sym (length-pixels_in one ∙ (λ i. wide i * high i))) below in
    take_more (pixels_in one) k no_pixel within ∙ ap (λ p. take k (pixels_in one) ++ p ∷ []) there

-- and all of them
all_pixels : (one : Source) (k width height : ℕ) → option_map sides (Some one) ≡ Some (width, height) → width * height ≤ k → take k (pixels_in one) ≡ pixels_in one
all_pixels one k width height sized past =
    let both : sides one ≡ (width, height) = cc in
    let wide : one.width ≡ width = ap (λ p. p.0) both in
    let high : one.height ≡ height = ap (λ p. p.1) both in
    take_all k (pixels_in one) (subst (λ n. n ≤ k) (sym (length-pixels_in one ∙ (λ i. wide i * high i))) past)

pub payload_start : (o : Option Source) → IfSome o (λ one. [] ≡ raw_bytes (take 0 (pixels_in one)))
payload_start None = tt
payload_start (Some one) = sym raw_bytes-none

pub payload_next : (o : Option Source) (pixel : Pixel) (x y k width height : ℕ) (old new : List ℕ) → option_map sides o ≡ Some (width, height) → option_map (λ one. pixel_of one x y) o ≡ Some pixel
    → y * width + x ≡ k → x < width → k < width * height → new ≡ old ++ bytes_of pixel
    → IfSome o (λ one. old ≡ raw_bytes (take k (pixels_in one))) → IfSome o (λ one. new ≡ raw_bytes (take (k + 1) (pixels_in one)))
payload_next None pixel x y k width height old new sized is place column below wrote so_far = tt
payload_next (Some one) pixel x y k width height old new sized is place column below wrote so_far =
    let more = next_pixel one pixel x y k width height sized is place column below in
    wrote ∙ ap (λ z. z ++ bytes_of pixel) so_far ∙ sym (raw_bytes-one (take k (pixels_in one)) pixel) ∙ ap raw_bytes (sym more)

pub payload_end : (o : Option Source) (k width height : ℕ) (bytes : List ℕ) → option_map sides o ≡ Some (width, height) → width * height ≤ k
    → IfSome o (λ one. bytes ≡ raw_bytes (take k (pixels_in one))) → IfSome o (λ one. bytes ≡ raw_bytes (pixels_in one))
payload_end None k width height bytes sized past so_far = tt
payload_end (Some one) k width height bytes sized past so_far = so_far ∙ ap raw_bytes (all_pixels one k width height sized past)

-- colours ----------------------------------------------------------------------------------------------

mapped_one : (pixels : List Pixel) (pixel : Pixel) → map colour_of (pixels ++ pixel ∷ []) ≡ map colour_of pixels ++ colour_of pixel ∷ []
mapped_one [] pixel = refl
mapped_one (p ∷ pixels) pixel = ap (λ z. colour_of p ∷ z) (mapped_one pixels pixel)

pub colours_start : (o : Option Source) → IfSome o (λ one. [] ≡ map colour_of (take 0 (pixels_in one)))
colours_start None = tt
colours_start (Some one) = refl

pub colours_next : (o : Option Source) (pixel : Pixel) (x y k width height : ℕ) (old new : List Rgb) → option_map sides o ≡ Some (width, height) → option_map (λ one. pixel_of one x y) o ≡ Some pixel
    → y * width + x ≡ k → x < width → k < width * height → new ≡ old ++ colour_of pixel ∷ []
    → IfSome o (λ one. old ≡ map colour_of (take k (pixels_in one))) → IfSome o (λ one. new ≡ map colour_of (take (k + 1) (pixels_in one)))
colours_next None pixel x y k width height old new sized is place column below wrote so_far = tt
colours_next (Some one) pixel x y k width height old new sized is place column below wrote so_far =
    let more = next_pixel one pixel x y k width height sized is place column below in
    wrote ∙ ap (λ z. z ++ colour_of pixel ∷ []) so_far ∙ sym (mapped_one (take k (pixels_in one)) pixel) ∙ ap (map colour_of) (sym more)

pub colours_end : (o : Option Source) (k width height : ℕ) (colours : List Rgb) → option_map sides o ≡ Some (width, height) → width * height ≤ k
    → IfSome o (λ one. colours ≡ map colour_of (take k (pixels_in one))) → IfSome o (λ one. colours ≡ colours_in one)
unfolding colours_in
colours_end None k width height colours sized past so_far = tt
colours_end (Some one) k width height colours sized past so_far = so_far ∙ ap (map colour_of) (all_pixels one k width height sized past)
