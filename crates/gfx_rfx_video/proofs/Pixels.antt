-- The pixels of a tile.
use Rattle.std.proofs.Common.{◌≡◌, ◌∙◌, ap, sym, ℕ, ◌+◌, ◌*◌, ◌/◌, ◌%◌, ◌<◌, List, length, get_or, arith}
use Rattle.std.proofs.lemmas.Option.{get_or_from_slice_get}
use Rattle.gfx_base.specs.declared.pixel.Pixel.{Pixel}
use Rattle.gfx_surface.specs.Picture.{AreOpaque, no_pixel}
use Rattle.gfx_rfx_video.specs.declared.planes.Planes.{Planes}
use Rattle.gfx_rfx_video.specs.Inside.{ArePixels}
use Rattle.gfx_rfx_video.specs.Tiles.{pixel_of}

-- the pixel of a row and a column
pub pixel-there : (planes : Planes) (pixels : List Pixel) (y x : ℕ) → ArePixels planes pixels → y < 64 → x < 64 → get_or pixels (y * 64 + x) no_pixel ≡ pixel_of planes y x
pixel-there planes pixels y x each low wide = get_or_from_slice_get pixels (y * 64 + x) (pixel_of planes y x) no_pixel (each y x low wide)

-- they are opaque
pub opaque-pixels : (planes : Planes) (pixels : List Pixel) → length pixels ≡ 4096 → ArePixels planes pixels → AreOpaque pixels
opaque-pixels planes pixels long each k below =
    let place : k / 64 * 64 + k % 64 ≡ k = omega arith in
    let low : k / 64 < 64 = omega arith in
    let wide : k % 64 < 64 = omega arith in
    ap (λ n. (get_or pixels n no_pixel).a) (sym place) ∙ ap (λ (pixel : Pixel). pixel.a) (pixel-there planes pixels (k / 64) (k % 64) each low wide)
