-- A paint by ClearCodec shows its source.
use Rattle.std.proofs.Common.{ℕ, ◌≡◌, ◌+◌, ◌-◌, ◌*◌, ◌<◌, ◌≤◌, true, cond, map, length, get_or, Option, Some, refl, sym, ap, ◌∙◌, subst, arith, mul-le-mul_left}
use Rattle.std.specs.Prelude.{if◌then◌else◌}
use Rattle.std.specs.Cmp.{nat_cmp_total}
use Rattle.std.specs.FinMap.{get, get-insert}
use Rattle.std.specs.List.{slice_get, slice_index_or}
use Rattle.std.specs.Ordering.{nat_cmp, eq_by_cmp}
use Rattle.std.proofs.lemmas.Bool.Decides.{nat_tests}
use Rattle.std.proofs.lemmas.List.{get_or-map}
use Rattle.gfx_base.specs.Geometry.{holds, lies_in, width_of}
use Rattle.gfx_base.specs.declared.format.Format.{Format}
use Rattle.gfx_base.specs.declared.format.Format.TheVariants.{Xrgb, Argb}
use Rattle.gfx_base.specs.declared.geometry.Point.{Point}
use Rattle.gfx_base.specs.declared.pixel.Rgb.{Rgb}
use Rattle.gfx_base.specs.Colour.{colour_of, opaque}
use Rattle.gfx_surface.specs.Picture.{Picture, shade, pixel_at, overlaid, in_rect, no_pixel}
use Rattle.gfx_surface.proofs.PictureLemmas.{pixel_at-drawn}
use Rattle.gfx_script.specs.declared.picture.Picture.{Picture as Source}
use Rattle.gfx_script.specs.declared.way.Way.{Way}
use Rattle.gfx_script.specs.declared.way.Way.TheVariants.{Uncompressed, ByLayer, InPasses, Video}
use Rattle.gfx_script.specs.Scripted.{Script}
use Rattle.gfx_script.specs.Ways.{is_stream, way_of}
use Rattle.gfx_script.specs.Patterns.{pixel_of}
use Rattle.gfx_script.specs.Writes.{place_of}
use Rattle.gfx_planner.specs.Pixels.{pixels_in, colours_in, opaque_in}
use Rattle.gfx_planner.specs.Wanted.{Wanted}
use Rattle.gfx_planner.specs.SurfaceEffects.{drawn_on}
use Rattle.gfx_planner.specs.PaintEffects.{with_painting, with_pixels}
use Rattle.gfx_planner.specs.Want.{wanted_as}
use Rattle.gfx_planner.specs.Sources.{ShowsSource, ClearPaintsShowTheirSource}
use Rattle.gfx_planner.proofs.Paints.{length-pixels_in, length-colours_in}

-- the pixel of a picture at its place in the list
pixel_listed : (source : Source) (x y : ℕ) → x < source.width → y < source.height → get_or (pixels_in source) (y * source.width + x) no_pixel ≡ pixel_of source x y
unfolding pixels_in
pixel_listed source x y column row = pixel_at-drawn source.width source.height x y (pixel_of source) no_pixel column row

below_area : (x y width height : ℕ) → x < width → y < height → y * width + x < width * height
below_area x y width height column row = let rows : width * (y + 1) ≤ width * height = mul-le-mul_left width (omega (arith, row)) in omega (arith, rows, column)

colour_listed : (source : Source) (x y : ℕ) → x < source.width → y < source.height → get_or (map opaque (colours_in source)) (y * source.width + x) no_pixel ≡ opaque (colour_of (pixel_of source x y))
unfolding colours_in
colour_listed source x y column row =
    let k = y * source.width + x in
    let below : k < length (pixels_in source) = subst (λ n. k < n) (sym (length-pixels_in source)) (below_area x y source.width source.height column row) in
    get_or-map opaque (map colour_of (pixels_in source)) k (colour_of no_pixel) no_pixel (subst (λ n. k < n) (sym (length-colours_in source)) (below_area x y source.width source.height column row))
    ∙ ap opaque (get_or-map colour_of (pixels_in source) k no_pixel (colour_of no_pixel) below ∙ ap colour_of (pixel_listed source x y column row))

-- a format keeps what is opaque
opaque_shaded : (format : Format) (colour : Rgb) → shade format (opaque colour) ≡ opaque colour
opaque_shaded Xrgb colour = refl
opaque_shaded Argb colour = refl

holds_there : (source : Source) (at : Point) (x y : ℕ) → x < source.width → y < source.height → holds (place_of source at) (at.x + x) (at.y + y) ≡ true
holds_there source at x y column row = grind (arith, nat_tests)

-- the place of a pixel in the rectangle
place_there : (source : Source) (at : Point) (x y : ℕ) → (at.y + y - (place_of source at).top) * width_of (place_of source at) + (at.x + x - (place_of source at).left) ≡ y * source.width + x
place_there source at x y =
    let row : at.y + y - at.y ≡ y = omega arith in
    let wide : at.x + (source.width - 0) - at.x ≡ source.width = omega arith in
    let column : at.x + x - at.x ≡ x = omega arith in
    λ i. row i * wide i + column i

overlaid_there : (surface : Picture) (source : Source) (at : Point) (x y : ℕ) → lies_in surface.width surface.height (place_of source at) ≡ true → x < source.width → y < source.height
    → pixel_at (overlaid surface (place_of source at) (map opaque (colours_in source))) (at.x + x) (at.y + y) ≡ opaque (colour_of (pixel_of source x y))
unfolding overlaid
overlaid_there surface source at x y inside column row =
    let rect = place_of source at in
    let pixels = map opaque (colours_in source) in
    let right : at.x + source.width ≤ surface.width = grind (arith, nat_tests) in
    let bottom : at.y + source.height ≤ surface.height = grind (arith, nat_tests) in
    pixel_at-drawn surface.width surface.height (at.x + x) (at.y + y) (λ x y. if holds rect x y then shade surface.format (in_rect rect pixels x y) else pixel_at surface x y) no_pixel
    (omega (arith, column, right)) (omega (arith, row, bottom))
    ∙ ap (λ b. if b then shade surface.format (in_rect rect pixels (at.x + x) (at.y + y)) else pixel_at surface (at.x + x) (at.y + y)) (holds_there source at x y column row)
    ∙ ap (λ k. shade surface.format (slice_index_or pixels k no_pixel)) (place_there source at x y)
    ∙ ap (shade surface.format) (colour_listed source x y column row)
    ∙ opaque_shaded surface.format (colour_of (pixel_of source x y))

-- a surface that is drawn on
drawn_there : (wanted : Wanted) (id : ℕ) (o : Option Picture) (surface : Picture) (draw : Picture → Picture) → o ≡ Some surface → get (drawn_on wanted.shown id o draw).surfaces id ≡ Some (draw surface)
unfolding drawn_on
drawn_there wanted id o surface draw there =
    ap (λ z. get (drawn_on wanted.shown id z draw).surfaces id) there
    ∙ get-insert nat_cmp_total wanted.shown.surfaces id (draw surface) id
    ∙ ap (λ b. cond b (Some (draw surface)) (get wanted.shown.surfaces id)) (let same : eq_by_cmp nat_cmp id id ≡ true = grind (arith, nat_tests) in same)

pixels_there : (wanted : Wanted) (id : ℕ) (at : Point) (o : Option Source) (source : Source) (surface : Picture) → o ≡ Some source
    → get wanted.shown.surfaces id ≡ Some surface → lies_in surface.width surface.height (place_of source at) ≡ true
    → ShowsSource (with_pixels wanted o opaque_in id at).shown.surfaces id source at
unfolding with_pixels
pixels_there wanted id at o source surface drawn there inside =
    let draw : Picture → Picture = λ surface. overlaid surface (place_of source at) (opaque_in source) in
    subst (λ o. ShowsSource (with_pixels wanted o opaque_in id at).shown.surfaces id source at) (sym drawn) record {
      picture = draw surface;
      there = drawn_there wanted id (get wanted.shown.surfaces id) surface draw there;
      each = λ x y column row. overlaid_there surface source at x y inside column row;
    }

-- by any layer
stream_there : (script : Script) (wanted : Wanted) (way : Way) (id : ℕ) (at : Point) (o : Option Source) (source : Source) (surface : Picture) → is_stream way ≡ true → o ≡ Some source
    → get wanted.shown.surfaces id ≡ Some surface → lies_in surface.width surface.height (place_of source at) ≡ true
    → ShowsSource (with_painting script wanted (Some way) o id at).shown.surfaces id source at
unfolding with_painting
stream_there script wanted Uncompressed id at o source surface stream drawn there inside = absurd cc
stream_there script wanted (ByLayer layer) id at o source surface stream drawn there inside = pixels_there wanted id at o source surface drawn there inside
stream_there script wanted InPasses id at o source surface stream drawn there inside = absurd cc
stream_there script wanted Video id at o source surface stream drawn there inside = absurd cc

-- the promise
pub shows_sources : ClearPaintsShowTheirSource
unfolding wanted_as
shows_sources script wanted kind named id number at glyph source surface clear drawn there inside =
    stream_there script wanted (way_of script.thin kind) id at (slice_get script.pictures number) source surface clear drawn there inside
