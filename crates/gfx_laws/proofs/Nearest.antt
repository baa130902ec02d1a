-- The pixels of a cell, of a picture at a place.
use Rattle.std.proofs.Common.{◌≡◌, ◌∙◌, ◌+◌, ◌-◌, ◌*◌, ◌<◌, ◌≤◌, ℕ, true, arith}
use Rattle.std.specs.Prelude.{min}
use Rattle.std.proofs.lemmas.Bool.Decides.{nat_tests}
use Rattle.gfx_base.specs.declared.geometry.Point.{Point}
use Rattle.gfx_base.specs.declared.pixel.Pixel.{Pixel}
use Rattle.gfx_base.specs.Cells.{cell}
use Rattle.gfx_base.specs.Geometry.{holds}
use Rattle.gfx_prog_live.specs.Tiles.{cell_pixels, nearest}
use Rattle.gfx_script.specs.declared.picture.Picture.{Picture as Source}
use Rattle.gfx_script.specs.Patterns.{pixel_of}
use Rattle.gfx_script.specs.Writes.{place_of}
use Rattle.gfx_surface.specs.Picture.{no_pixel}
use Rattle.gfx_surface.proofs.PictureLemmas.{length-drawn, pixel_at-drawn}
use Rattle.gfx_laws.specs.PassesShown.{AreNearest}

-- the nearest coordinate of a side that begins at a place
nearest-is : (from side place : ℕ) → 1 ≤ side → nearest from (from + (side - 0)) place ≡ min (place - from) (side - 1)
nearest-is from side place some = omega (arith, some)

-- a picture with a pixel has columns and rows
pub has-width : (source : Source) (at : Point) (x y : ℕ) → holds (place_of source at) x y ≡ true → 1 ≤ source.width
has-width source at x y hit =
    let left : at.x ≤ x = grind (arith, nat_tests) in
    let right : x < at.x + (source.width - 0) = grind (arith, nat_tests) in
    omega (arith, left, right)

pub has-height : (source : Source) (at : Point) (x y : ℕ) → holds (place_of source at) x y ≡ true → 1 ≤ source.height
has-height source at x y hit =
    let top : at.y ≤ y = grind (arith, nat_tests) in
    let bottom : y < at.y + (source.height - 0) = grind (arith, nat_tests) in
    omega (arith, top, bottom)

-- the pixels that a cell's tile is made of
pub cell-nearest : (source : Source) (at : Point) (column row : ℕ) → 1 ≤ source.width → 1 ≤ source.height → AreNearest source at column row (cell_pixels source (place_of source at) (cell column row))
unfolding cell_pixels
cell-nearest source at column row wide high = record {
  whole = length-drawn 64 64 drawer;
  each = λ x y across down.
      pixel_at-drawn 64 64 x y drawer no_pixel across down
      ∙ (λ i. pixel_of source (nearest-is at.x source.width (64 * column + x) wide i) (nearest-is at.y source.height (64 * row + y) high i));
}
  where
    drawer : ℕ → ℕ → Pixel
    drawer x y = pixel_of source (nearest at.x (at.x + (source.width - 0)) (64 * column + x)) (nearest at.y (at.y + (source.height - 0)) (64 * row + y))
