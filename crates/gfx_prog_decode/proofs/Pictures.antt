-- Pictures of the same sides that differ in a cell alone.
use Rattle.std.proofs.Common.{◌≡◌, ◌∙◌, ap, sym, refl, Bool, true, false, if◌then◌else◌, ℕ, ◌+◌, ◌*◌, ◌/◌, ◌%◌, ◌<◌, List, get_or, arith}
use Rattle.std.proofs.lemmas.List.FromFn.{get_or-map-range_with_len}
use Rattle.std.proofs.lemmas.Nat.{div_below}
use Rattle.gfx_base.specs.declared.geometry.Rect.{Rect}
use Rattle.gfx_base.specs.declared.pixel.Pixel.{Pixel}
use Rattle.gfx_base.specs.Geometry.{holds}
use Rattle.gfx_surface.specs.Picture.{Picture, IsPicture, redrawn, in_rect, shade, no_pixel, pixel_at, drawn}
use Rattle.gfx_surface.proofs.PictureLemmas.{drawn_by_all, length-drawn}
use Rattle.gfx_surface.proofs.Places.{some_columns}

-- the column and the row of a place
pub column_of : (k width height : ℕ) → k < width * height → k % width < width
column_of k width height below = let some : 0 < width = some_columns k width height below in omega arith

pub row_of_place : (k width height : ℕ) → k < width * height → k / width < height
row_of_place k width height below = let some : 0 < width = some_columns k width height below in div_below k width height some (omega arith)

place_of : (k width height : ℕ) → k < width * height → k ≡ k / width * width + k % width
place_of k width height below = let some : 0 < width = some_columns k width height below in omega arith

-- drawn by functions that agree inside
pub drawn_same : (width height : ℕ) (f g : ℕ → ℕ → Pixel) → ((x y : ℕ) → x < width → y < height → f x y ≡ g x y)
    → drawn width height f ≡ drawn width height g
drawn_same width height f g same =
    drawn_by_all width height g no_pixel (drawn width height f) (length-drawn width height f)
    (λ k below.
    get_or-map-range_with_len (λ k. f (k % width) (k / width)) 0 (width * height) k k no_pixel below (omega arith)
    ∙ same (k % width) (k / width) (column_of k width height below) (row_of_place k width height below))

-- redrawn by such
pub redrawn_same : (picture : Picture) (f g : ℕ → ℕ → Pixel) → ((x y : ℕ) → x < picture.width → y < picture.height → f x y ≡ g x y)
    → redrawn picture f ≡ redrawn picture g
redrawn_same picture f g same = ap (λ (pixels : List Pixel). record picture { pixels = pixels }) (drawn_same picture.width picture.height f g same)

-- a picture redrawn with its own pixels
pub redrawn_self : (picture : Picture) (f : ℕ → ℕ → Pixel) → IsPicture picture
    → ((x y : ℕ) → x < picture.width → y < picture.height → f x y ≡ pixel_at picture x y) → redrawn picture f ≡ picture
redrawn_self picture f shape same =
    sym (ap (λ (pixels : List Pixel). record picture { pixels = pixels })
    (drawn_by_all picture.width picture.height f no_pixel picture.pixels shape.full
    (λ k below.
    ap (λ p. get_or picture.pixels p no_pixel) (place_of k picture.width picture.height below)
    ∙ sym (same (k % picture.width) (k / picture.width) (column_of k picture.width picture.height below) (row_of_place k picture.width picture.height below)))))

-- a choice whose sides agree where they are taken
pub choices : (b : Bool) (p q r s : Pixel) → (b ≡ true → p ≡ r) → (b ≡ false → q ≡ s) → (if b then p else q) ≡ (if b then r else s)
choices true p q r s one other = one refl
choices false p q r s one other = other refl

-- the function that an overlaid picture is redrawn by
abbrev pub overlay : Picture → Rect → List Pixel → ℕ → ℕ → Pixel
overlay picture rect pixels x y = if holds rect x y then shade picture.format (in_rect rect pixels x y) else pixel_at picture x y
