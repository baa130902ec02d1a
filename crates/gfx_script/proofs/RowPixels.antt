-- The pixels of a picture that is made of rows of bytes.
use Rattle.std.proofs.Common.{◌≡◌, ◌∙◌, ℕ, ◌+◌, ◌*◌, ◌<◌, ◌≤◌, List, length, slice_index, ap, arith}
use Rattle.std.specs.List.{slice_index_or}
use Rattle.std.proofs.lemmas.Nat.{row_fits_turned}
use Rattle.gfx_base.specs.declared.format.Format.TheVariants.{Xrgb}
use Rattle.gfx_base.specs.declared.pixel.Pixel.{Pixel}
use Rattle.gfx_surface.specs.Picture.{no_pixel, raw_pixels}
use Rattle.gfx_surface.proofs.CopyLemmas.{get_or-raw_pixels}
use Rattle.gfx_script.specs.declared.picture.Pattern.TheVariants.{Hex}
use Rattle.gfx_script.specs.Patterns.{opaque, pattern_pixel, pixel_of}

pub row_pixel : (width height : ℕ) (rows : List ℕ) (pixels : List Pixel) (x y : ℕ) → pixels ≡ raw_pixels Xrgb rows → length rows ≡ 4 * (width * height) → x < width → y < height
    → pixel_of record { width = width; height = height; pattern = Hex pixels } x y
    ≡ opaque (slice_index rows (4 * (y * width + x))) (slice_index rows (4 * (y * width + x) + 1)) (slice_index rows (4 * (y * width + x) + 2))
unfolding pattern_pixel
row_pixel width height rows pixels x y same whole column row =
    let rows_fit : y * width + width ≤ width * height = row_fits_turned y width width height row (omega arith) in
    let within : y * width + x < width * height = omega (arith, rows_fit, column) in
    ap (λ list. slice_index_or list (y * width + x) no_pixel) same ∙ get_or-raw_pixels Xrgb rows (y * width + x) no_pixel (omega (arith, whole, within))
