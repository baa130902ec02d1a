-- The pixel that a drawing leaves where it writes.
use Rattle.std.proofs.Common.{◌≡◌, ◌∙◌, ◌+◌, ◌-◌, ◌*◌, ◌<◌, ◌≤◌, ◌||◌, ℕ, Bool, true, false, cond, List, [], ◌∷◌, map, length, get_or, refl, sym, ap, subst, arith, mul-le-mul_left}
use Rattle.std.specs.List.{AllByRecursion, list_any, slice_index_or}
use Rattle.std.proofs.lemmas.Bool.Decides.{nat_tests}
use Rattle.std.proofs.lemmas.List.{get_or-map, get_or-replicate}
use Rattle.gfx_base.specs.declared.format.Format.{Format}
use Rattle.gfx_base.specs.declared.format.Format.TheVariants.{Xrgb, Argb}
use Rattle.gfx_base.specs.declared.geometry.Point.{Point}
use Rattle.gfx_base.specs.declared.geometry.Rect.{Rect}
use Rattle.gfx_base.specs.declared.pixel.Pixel.{Pixel}
use Rattle.gfx_base.specs.declared.pixel.Rgb.{Rgb}
use Rattle.gfx_base.specs.Colour.{colour_of, opaque}
use Rattle.gfx_base.specs.Geometry.{holds, moved, sized}
use Rattle.gfx_prog_law.proofs.Seen.{SameShape}
use Rattle.gfx_script.specs.declared.picture.Picture.{Picture as Source}
use Rattle.gfx_script.specs.Patterns.{pixel_of}
use Rattle.gfx_script.specs.Writes.{at_each, place_of}
use Rattle.gfx_surface.proofs.PictureLemmas.{pixel_at-drawn}
use Rattle.gfx_surface.specs.Picture.{Picture, blank, copied, filled, in_rect, no_pixel, overlaid, pixel_at, redrawn, shade, zero_colour}
use Rattle.gfx_surface_map.specs.Shown.{copied_to, stamped}
use Rattle.gfx_surface_map.specs.Surfaces.{painted}
use Rattle.gfx_planner.specs.Pixels.{colours_in, opaque_in, pixels_in}
use Rattle.gfx_planner.proofs.Paints.{length-colours_in, length-pixels_in}
use Rattle.gfx_laws.specs.Written.{IsLastAt}

either : (b c : Bool) → (b || c) ≡ true → c ≡ false → b ≡ true
either true c e none = refl
either false c e none = sym none ∙ e

-- ---- a surface that is made

below_area : (x y width height : ℕ) → x < width → y < height → y * width + x < width * height
below_area x y width height column row = let rows : width * (y + 1) ≤ width * height = mul-le-mul_left width (omega (arith, row)) in omega (arith, rows, column)

pub blank-pixel : (width height : ℕ) (format : Format) (x y : ℕ) → x < width → y < height → pixel_at (blank width height format) x y ≡ zero_colour format
blank-pixel width height format x y column row = get_or-replicate (width * height) (y * width + x) (zero_colour format) no_pixel (below_area x y width height column row)

-- ---- a picture that is drawn where a test holds

drawn-there : (picture : Picture) (test : ℕ → ℕ → Bool) (f : ℕ → ℕ → Pixel) (x y : ℕ) → x < picture.width → y < picture.height
    → pixel_at (redrawn picture (λ a b. cond (test a b) (f a b) (pixel_at picture a b))) x y ≡ cond (test x y) (f x y) (pixel_at picture x y)
drawn-there picture test f x y column row = pixel_at-drawn picture.width picture.height x y (λ a b. cond (test a b) (f a b) (pixel_at picture a b)) no_pixel column row

-- ---- fills

filled-pixel : (picture : Picture) (rect : Rect) (colour : Pixel) (x y : ℕ) → x < picture.width → y < picture.height
    → pixel_at (filled picture rect colour) x y ≡ cond (holds rect x y) (shade picture.format colour) (pixel_at picture x y)
unfolding filled
filled-pixel picture rect colour x y column row = drawn-there picture (holds rect) (λ a b. shade picture.format colour) x y column row

filled-same : (picture : Picture) (rect : Rect) (colour : Pixel) → ((filled picture rect colour).width ≡ picture.width) × (((filled picture rect colour).height ≡ picture.height) × ((filled picture rect colour).format ≡ picture.format))
unfolding filled
filled-same picture rect colour = (refl, (refl, refl))

-- where a later rectangle has the pixel, or it has the colour already
fill-has : (rects : List Rect) (colour : Pixel) (format : Format) (x y : ℕ) (picture : Picture) → x < picture.width → y < picture.height → picture.format ≡ format
    → (b : Bool) → list_any (λ rect. holds rect x y) rects ≡ b → (b ≡ false → pixel_at picture x y ≡ shade format colour) → pixel_at (painted picture rects colour) x y ≡ shade format colour
fill-has [] colour format x y picture column row same b is so = so (sym is)
fill-has (rect ∷ rects) colour format x y picture column row same b is so =
    let next : Picture = filled picture rect colour in
    let sides = filled-same picture rect colour in
    fill-has rects colour format x y next (subst (λ n. x < n) (sym sides.0) column) (subst (λ n. y < n) (sym sides.1.0) row) (sides.1.1 ∙ same)
    (list_any (λ r. holds r x y) rects) refl (λ none. filled-pixel picture rect colour x y column row ∙ by (holds rect x y) refl none)
  where
    by : (h : Bool) → holds rect x y ≡ h → list_any (λ r. holds r x y) rects ≡ false → cond h (shade picture.format colour) (pixel_at picture x y) ≡ shade format colour
    by true hit none = ap (λ f. shade f colour) same
    by false miss none = so (sym is ∙ ap (λ h. h || list_any (λ r. holds r x y) rects) miss ∙ none)

pub fill-pixel : (rects : List Rect) (colour : Pixel) (picture : Picture) (x y : ℕ) → x < picture.width → y < picture.height → list_any (λ rect. holds rect x y) rects ≡ true
    → pixel_at (painted picture rects colour) x y ≡ shade picture.format colour
fill-pixel rects colour picture x y column row has = fill-has rects colour picture.format x y picture column row refl true has (λ e. absurd (let f : true ≡ false = e in cc))

-- ---- what is put at points

-- the pixel that is put at a point, and where it isn't put
pub record PutsAt (rect : Rect) (put : Point → Picture → Picture) (colour : Point → ℕ → ℕ → Pixel) : Type 0 where
  pub shape : (point : Point) (picture : Picture) → SameShape picture (put point picture)
  pub pixel : (point : Point) (picture : Picture) (x y : ℕ) → x < picture.width → y < picture.height
      → pixel_at (put point picture) x y ≡ cond (holds (moved rect point) x y) (shade picture.format (colour point x y)) (pixel_at picture x y)

-- one point after another
abbrev pub put_all : (Point → Picture → Picture) → List Point → Picture → Picture
put_all put [] picture = picture
put_all put (point ∷ points) picture = put_all put points (put point picture)

-- the last that has the pixel puts it
pub record PutLast (rect : Rect) (put : Point → Picture → Picture) (colour : Point → ℕ → ℕ → Pixel) (x y : ℕ) (points : List Point) (picture : Picture) : Type 0 where
  pub point : Point
  pub last : IsLastAt rect points x y point
  pub is : pixel_at (put_all put points picture) x y ≡ shade picture.format (colour point x y)

neither : (a b : Bool) → (a || b) ≡ false → (a ≡ false) × (b ≡ false)
neither true b e = absurd cc
neither false b e = (refl, e)

module _ (rect : Rect) (put : Point → Picture → Picture) (colour : Point → ℕ → ℕ → Pixel) (puts : PutsAt rect put colour) (x y : ℕ) where
  abbrev HasAny : List Point → Bool
  HasAny points = list_any (λ r. holds r x y) (at_each points rect)

  none-of : (points : List Point) → HasAny points ≡ false → AllByRecursion (λ (point : Point). holds (moved rect point) x y ≡ false) points
  none-of [] e = tt
  none-of (point ∷ points) e = let both = neither (holds (moved rect point) x y) (HasAny points) e in (both.0, none-of points both.1)

  -- those that don't have it leave it
  all-miss : (points : List Point) (picture : Picture) → x < picture.width → y < picture.height → AllByRecursion (λ (point : Point). holds (moved rect point) x y ≡ false) points
      → pixel_at (put_all put points picture) x y ≡ pixel_at picture x y
  all-miss [] picture column row none = refl
  all-miss (point ∷ points) picture column row none =
      let shape = puts.shape point picture in
      all-miss points (put point picture) (subst (λ n. x < n) (sym shape.width) column) (subst (λ n. y < n) (sym shape.height) row) none.1
      ∙ puts.pixel point picture x y column row ∙ ap (λ b. cond b (shade picture.format (colour point x y)) (pixel_at picture x y)) none.0

  -- a later one has it
  put-later : (point : Point) (points : List Point) (picture : Picture) → PutLast rect put colour x y points (put point picture) → PutLast rect put colour x y (point ∷ points) picture
  put-later point points picture found = record {
    point = found.point;
    last = record { before = point ∷ found.last.before; after = found.last.after; cut = ap (λ ps. point ∷ ps) found.last.cut; has = found.last.has; none = found.last.none };
    is = found.is ∙ ap (λ f. shade f (colour found.point x y)) (puts.shape point picture).format;
  }

  -- none does
  put-here : (point : Point) (points : List Point) (picture : Picture) → x < picture.width → y < picture.height → holds (moved rect point) x y ≡ true → HasAny points ≡ false
      → PutLast rect put colour x y (point ∷ points) picture
  put-here point points picture column row hit none =
      let shape = puts.shape point picture in
      record {
        point = point;
        last = record { before = []; after = points; cut = refl; has = hit; none = none-of points none };
        is = all-miss points (put point picture) (subst (λ n. x < n) (sym shape.width) column) (subst (λ n. y < n) (sym shape.height) row) (none-of points none)
            ∙ puts.pixel point picture x y column row
            ∙ ap (λ b. cond b (shade picture.format (colour point x y)) (pixel_at picture x y)) hit;
      }

  put-by : (point : Point) (points : List Point) (picture : Picture) → x < picture.width → y < picture.height → (holds (moved rect point) x y || HasAny points) ≡ true
      → (HasAny points ≡ true → PutLast rect put colour x y points (put point picture)) → (b : Bool) → HasAny points ≡ b → PutLast rect put colour x y (point ∷ points) picture
  put-by point points picture column row has more true e = put-later point points picture (more e)
  put-by point points picture column row has more false e = put-here point points picture column row (either (holds (moved rect point) x y) (HasAny points) has e) e

  pub put-pixel : (points : List Point) (picture : Picture) → x < picture.width → y < picture.height → HasAny points ≡ true → PutLast rect put colour x y points picture
  put-pixel [] picture column row has = absurd (let f : false ≡ true = has in cc)
  put-pixel (point ∷ points) picture column row has =
      let shape = puts.shape point picture in
      put-by point points picture column row has
      (λ more. put-pixel points (put point picture) (subst (λ n. x < n) (sym shape.width) column) (subst (λ n. y < n) (sym shape.height) row) more)
      (HasAny points) refl

-- copies
abbrev pub copy-colour : Picture → Rect → Point → ℕ → ℕ → Pixel
copy-colour source rect to x y = pixel_at source (x - to.x + rect.left) (y - to.y + rect.top)

pub copies-put : (source : Picture) (rect : Rect) → PutsAt rect (copied source rect) (copy-colour source rect)
unfolding copied
copies-put source rect = record {
  shape = λ point picture. record { width = refl; height = refl; format = refl };
  pixel = λ point picture x y column row. drawn-there picture (holds (moved rect point)) (λ a b. shade picture.format (copy-colour source rect point a b)) x y column row;
}

pub copies-all : (source : Picture) (rect : Rect) (points : List Point) (picture : Picture) → copied_to source rect points picture ≡ put_all (copied source rect) points picture
copies-all source rect [] picture = refl
copies-all source rect (point ∷ points) picture = copies-all source rect points (copied source rect point picture)

-- bitmaps
abbrev pub stamp-colour : ℕ → List Pixel → Point → ℕ → ℕ → Pixel
stamp-colour width pixels to x y = slice_index_or pixels ((y - to.y) * width + (x - to.x)) no_pixel

abbrev pub stamp : ℕ → ℕ → List Pixel → Point → Picture → Picture
stamp width height pixels point picture = overlaid picture (moved (sized width height) point) pixels

pub stamps-put : (width height : ℕ) (pixels : List Pixel) → PutsAt (sized width height) (stamp width height pixels) (stamp-colour width pixels)
unfolding overlaid
stamps-put width height pixels = record {
  shape = λ point picture. record { width = refl; height = refl; format = refl };
  pixel = λ point picture x y column row.
      let wide : point.x + (width - 0) - point.x ≡ width = omega arith in
      drawn-there picture (holds (moved (sized width height) point)) (λ a b. shade picture.format (in_rect (moved (sized width height) point) pixels a b)) x y column row
      ∙ ap (λ w. cond (holds (moved (sized width height) point) x y) (shade picture.format (slice_index_or pixels ((y - point.y) * w + (x - point.x)) no_pixel)) (pixel_at picture x y)) wide;
}

pub stamps-all : (width height : ℕ) (pixels : List Pixel) (points : List Point) (picture : Picture)
    → stamped (sized width height) pixels points picture ≡ put_all (stamp width height pixels) points picture
stamps-all width height pixels [] picture = refl
stamps-all width height pixels (point ∷ points) picture = stamps-all width height pixels points (stamp width height pixels point picture)

-- ---- pictures that go whole

-- a place of a picture that lies at a point
pub record PlaceIn (source : Source) (at : Point) (x y : ℕ) : Type 0 where
  pub column : x - at.x < source.width
  pub row : y - at.y < source.height

pub place-in : (source : Source) (at : Point) (x y : ℕ) → holds (place_of source at) x y ≡ true → PlaceIn source at x y
place-in source at x y hit =
    let left : at.x ≤ x = grind (arith, nat_tests) in
    let right : x < at.x + (source.width - 0) = grind (arith, nat_tests) in
    let top : at.y ≤ y = grind (arith, nat_tests) in
    let bottom : y < at.y + (source.height - 0) = grind (arith, nat_tests) in
    record { column = omega (arith, left, right); row = omega (arith, top, bottom) }

pixel_listed : (source : Source) (x y : ℕ) → x < source.width → y < source.height → get_or (pixels_in source) (y * source.width + x) no_pixel ≡ pixel_of source x y
unfolding pixels_in
pixel_listed source x y column row = pixel_at-drawn source.width source.height x y (pixel_of source) no_pixel column row

colour_listed : (source : Source) (x y : ℕ) → x < source.width → y < source.height → get_or (opaque_in source) (y * source.width + x) no_pixel ≡ opaque (colour_of (pixel_of source x y))
unfolding colours_in
colour_listed source x y column row =
    let k = y * source.width + x in
    let below : k < length (pixels_in source) = subst (λ n. k < n) (sym (length-pixels_in source)) (below_area x y source.width source.height column row) in
    get_or-map opaque (map colour_of (pixels_in source)) k (colour_of no_pixel) no_pixel (subst (λ n. k < n) (sym (length-colours_in source)) (below_area x y source.width source.height column row))
    ∙ ap opaque (get_or-map colour_of (pixels_in source) k no_pixel (colour_of no_pixel) below ∙ ap colour_of (pixel_listed source x y column row))

overlaid-pixel : (surface : Picture) (source : Source) (at : Point) (pixels : List Pixel) (x y : ℕ) → x < surface.width → y < surface.height → holds (place_of source at) x y ≡ true
    → pixel_at (overlaid surface (place_of source at) pixels) x y ≡ shade surface.format (get_or pixels ((y - at.y) * source.width + (x - at.x)) no_pixel)
unfolding overlaid
overlaid-pixel surface source at pixels x y column row hit =
    let wide : at.x + (source.width - 0) - at.x ≡ source.width = omega arith in
    drawn-there surface (holds (place_of source at)) (λ a b. shade surface.format (in_rect (place_of source at) pixels a b)) x y column row
    ∙ ap (λ b. cond b (shade surface.format (in_rect (place_of source at) pixels x y)) (pixel_at surface x y)) hit
    ∙ ap (λ w. shade surface.format (slice_index_or pixels ((y - at.y) * w + (x - at.x)) no_pixel)) wide

opaque-shaded : (format : Format) (colour : Rgb) → shade format (opaque colour) ≡ opaque colour
opaque-shaded Xrgb colour = refl
opaque-shaded Argb colour = refl

pub raw-pixel : (surface : Picture) (source : Source) (at : Point) (x y : ℕ) → x < surface.width → y < surface.height → holds (place_of source at) x y ≡ true
    → pixel_at (overlaid surface (place_of source at) (pixels_in source)) x y ≡ shade surface.format (pixel_of source (x - at.x) (y - at.y))
raw-pixel surface source at x y column row hit =
    let place = place-in source at x y hit in
    overlaid-pixel surface source at (pixels_in source) x y column row hit ∙ ap (shade surface.format) (pixel_listed source (x - at.x) (y - at.y) place.column place.row)

pub clear-pixel : (surface : Picture) (source : Source) (at : Point) (x y : ℕ) → x < surface.width → y < surface.height → holds (place_of source at) x y ≡ true
    → pixel_at (overlaid surface (place_of source at) (opaque_in source)) x y ≡ opaque (colour_of (pixel_of source (x - at.x) (y - at.y)))
clear-pixel surface source at x y column row hit =
    let place = place-in source at x y hit in
    overlaid-pixel surface source at (opaque_in source) x y column row hit
    ∙ ap (shade surface.format) (colour_listed source (x - at.x) (y - at.y) place.column place.row)
    ∙ opaque-shaded surface.format (colour_of (pixel_of source (x - at.x) (y - at.y)))
