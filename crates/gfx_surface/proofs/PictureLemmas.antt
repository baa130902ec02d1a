-- Pictures from their lists of pixels, and what each change leaves.
use Rattle.std.proofs.Common.{◌≡◌, refl, sym, ap, ◌∙◌, subst, IsTrue, true, false, Bool, if◌then◌else◌, ℕ, ◌+◌, ◌-◌, ◌*◌, ◌/◌, ◌%◌, ◌<◌, ◌≤◌, min, ◌&&◌, nat_le, nat_lt, List, [], ◌∷◌, map, length, take, drop, get_or, get_or-take, get_or-drop, length-take, length-drop, replicate, All, arith}
use Rattle.std.proofs.lemmas.List.{get_or-map, ext_get_or, length-replicate, get_or-replicate}
use Rattle.std.proofs.lemmas.List.Elements.{All-replicate, All-from_get_or, All-get_or}
use Rattle.std.proofs.lemmas.List.FromFn.{fill_by_all, length-map-range_with_len, get_or-map-range_with_len}
use Rattle.std.proofs.lemmas.Bool.Decides.{nat_tests}
use Rattle.gfx_base.specs.declared.format.Format.{Format}
use Rattle.gfx_base.specs.declared.format.Format.TheVariants.{Xrgb, Argb}
use Rattle.gfx_base.specs.declared.geometry.Point.{Point}
use Rattle.gfx_base.specs.declared.geometry.Rect.{Rect}
use Rattle.gfx_base.specs.declared.pixel.Pixel.{Pixel}
use Rattle.gfx_base.specs.Geometry.{holds, lies_in, width_of, height_of, moved, sized}
use Rattle.gfx_surface.specs.Picture.{Picture, IsPicture, blank, filled, copied, overlaid, redrawn, rect_of, in_rect, raw_pixels, shade, zero_colour, no_pixel, pixel_at, row_of, run_of, drawn}
use Rattle.gfx_surface.specs.declared.TheConstants.{MOST_SIDE}
use Rattle.gfx_surface.specs.Cells.{kept_at, place, places, shown}
use Rattle.gfx_surface.specs.Rows.{WritesRows}
use Rattle.gfx_surface.specs.Where.{WritesWhere, taken_from}
use Rattle.std.proofs.lemmas.Nat.{mul-add-lt, div-mul-add, mod-mul-add, div_below, row_fits}
use Rattle.gfx_surface.proofs.Places.{some_columns}
use Rattle.gfx_surface.proofs.CellPlaces.{place_below}
use Rattle.gfx_surface.proofs.CopyLemmas.{each_alike, length-raw_pixels}

-- a list that is drawn has a pixel for each place
pub length-drawn : (width height : ℕ) (f : ℕ → ℕ → Pixel) → length (drawn width height f) ≡ width * height
length-drawn width height f = length-map-range_with_len _ 0 (width * height)

-- a list that has the pixel of a function at each place is drawn from it
pub drawn_by_all : (width height : ℕ) (f : ℕ → ℕ → Pixel) (d : Pixel) (pixels : List Pixel) → length pixels ≡ width * height
    → ((k : ℕ) → k < width * height → get_or pixels k d ≡ f (k % width) (k / width)) → pixels ≡ drawn width height f
drawn_by_all width height f d pixels full each = fill_by_all (λ k. f (k % width) (k / width)) pixels (width * height) d full each

-- the pixel of a drawn picture
pub pixel_at-drawn : (width height x y : ℕ) (f : ℕ → ℕ → Pixel) (d : Pixel) → x < width → y < height → get_or (drawn width height f) (y * width + x) d ≡ f x y
pixel_at-drawn width height x y f d column row =
    get_or-map-range_with_len (λ k. f (k % width) (k / width)) 0 (width * height) (y * width + x) (y * width + x) d (mul-add-lt y width x height row column) (omega arith)
    ∙ (λ i. f (mod-mul-add y width x column i) (div-mul-add y width x column i))

-- a row of a picture has as many pixels as the picture has columns
pub length-row_of : (picture : Picture) (y : ℕ) → IsPicture picture → y < picture.height → length (row_of picture y) ≡ picture.width
length-row_of picture y shape row =
    let fits : y * picture.width + picture.width ≤ picture.height * picture.width = row_fits y picture.width picture.height picture.width row (omega arith) in
    let full : length picture.pixels ≡ picture.width * picture.height = shape.full in
    simp (length-take, length-drop) (omega arith)

pub get_or-row_of : (picture : Picture) (y x : ℕ) → x < picture.width → get_or (row_of picture y) x no_pixel ≡ pixel_at picture x y
get_or-row_of picture y x column =
    get_or-take picture.width (drop (y * picture.width) picture.pixels) x no_pixel column ∙ get_or-drop (y * picture.width) picture.pixels x no_pixel

-- pixels that are a picture's are a run of its row
pub run_read : (picture : Picture) (x y count : ℕ) (out : List Pixel) → IsPicture picture → length out ≡ count → x + count ≤ picture.width → y < picture.height
    → ((k : ℕ) → k < count → get_or out k no_pixel ≡ pixel_at picture (x + k) y) → out ≡ run_of picture x y count
run_read picture x y count out shape counted columns row each =
    ext_get_or no_pixel out (run_of picture x y count) (counted ∙ sym long) (λ k below.
    let less : k < count = omega (arith, below, counted) in
    each k less ∙ sym (get_or-take count (drop x (row_of picture y)) k no_pixel less ∙ get_or-drop x (row_of picture y) k no_pixel
    ∙ get_or-row_of picture y (x + k) (omega arith)))
  where
    long : length (run_of picture x y count) ≡ count
    long =
        let whole : length (row_of picture y) ≡ picture.width = length-row_of picture y shape row in
        let rest : length (drop x (row_of picture y)) ≡ length (row_of picture y) - x = length-drop x (row_of picture y) in
        let all : length (take count (drop x (row_of picture y))) ≡ min count (length (drop x (row_of picture y))) = length-take count (drop x (row_of picture y)) in
        all ∙ omega (arith, columns, whole, rest)

-- the row of a place, and its column, are among those there
row_below : (k width height : ℕ) → k < width * height → k / width < height
row_below k width height below =
    let some : 0 < width = some_columns k width height below in div_below k width height some (omega arith)

column_below : (k width height : ℕ) → k < width * height → k % width < width
column_below k width height below = let some : 0 < width = some_columns k width height below in omega arith

-- functions that are alike on the places draw one list
pub drawn_alike : (width height : ℕ) (f g : ℕ → ℕ → Pixel) → ((x y : ℕ) → x < width → y < height → f x y ≡ g x y) → drawn width height f ≡ drawn width height g
drawn_alike width height f g alike =
    drawn_by_all width height g no_pixel (drawn width height f) (length-drawn width height f)
    (λ k below.
    get_or-map-range_with_len (λ k. f (k % width) (k / width)) 0 (width * height) k k no_pixel below (omega arith)
    ∙ alike (k % width) (k / width) (column_below k width height below) (row_below k width height below))

-- the picture that cells show
abbrev pub of_cells : ℕ → ℕ → Format → List Pixel → Picture
of_cells width height format cells = record { width = width; height = height; format = format; pixels = shown width height cells }

-- and its pixels
pub pixel_at-of_cells : (width height : ℕ) (format : Format) (cells : List Pixel) (x y : ℕ) → x < width → y < height
    → pixel_at (of_cells width height format cells) x y ≡ kept_at width cells x y
pixel_at-of_cells width height format cells x y column row = pixel_at-drawn width height x y (kept_at width cells) no_pixel column row

-- a choice by a test, one of whose sides is told otherwise
pub choose : (test : Bool) (p q other : Pixel) → (test ≡ true → p ≡ q) → (if test then p else other) ≡ (if test then q else other)
choose true p q other same = same refl
choose false p q other same = refl

-- cells with written places show a picture that is redrawn
pub cells_redrawn : (width height : ℕ) (format : Format) (test : ℕ → ℕ → Bool) (f g : ℕ → ℕ → Pixel) (old new : List Pixel)
    → WritesWhere width height test f old new
    → ((x y : ℕ) → test x y ≡ true → x < width → y < height → f x y ≡ g x y)
    → of_cells width height format new
    ≡ redrawn (of_cells width height format old) (λ x y. if test x y then g x y else pixel_at (of_cells width height format old) x y)
cells_redrawn width height format test f g old new writes says =
    ap (λ (pixels : List Pixel). record { width = width; height = height; format = format; pixels = pixels })
    (drawn_alike width height (kept_at width new) (λ x y. if test x y then g x y else pixel_at (of_cells width height format old) x y)
    (λ x y column row.
    writes x y no_pixel column row
    ∙ choose (test x y) (f x y) (g x y) (kept_at width old x y) (λ hit. says x y hit column row)
    ∙ ap (λ p. if test x y then g x y else p) (sym (pixel_at-of_cells width height format old x y column row))))

-- cells of which a rectangle is filled
pub cells_filled : (width height : ℕ) (format : Format) (rect : Rect) (colour kept : Pixel) (old new : List Pixel) → kept ≡ shade format colour
    → WritesWhere width height (holds rect) (λ _ _. kept) old new
    → of_cells width height format new ≡ filled (of_cells width height format old) rect colour
unfolding filled
cells_filled width height format rect colour kept old new keeps writes =
    cells_redrawn width height format (holds rect) (λ _ _. kept) (λ _ _. shade format colour) old new writes (λ _ _ _ _ _. keeps)

-- the pixel that a place of a moved rectangle comes from is in the rectangle
came_column : (rect : Rect) (to : Point) (width height x y : ℕ) → IsTrue (lies_in width height rect) → holds (moved rect to) x y ≡ true → x - to.x + rect.left < width
came_column rect to width height x y inside hit = grind (arith, nat_tests)

came_row : (rect : Rect) (to : Point) (width height x y : ℕ) → IsTrue (lies_in width height rect) → holds (moved rect to) x y ≡ true → y - to.y + rect.top < height
came_row rect to width height x y inside hit = grind (arith, nat_tests)

-- a pixel of a picture is as its format keeps it
pub shade-pixel_at : (picture : Picture) (x y : ℕ) → IsPicture picture → x < picture.width → y < picture.height
    → shade picture.format (pixel_at picture x y) ≡ pixel_at picture x y
shade-pixel_at picture x y shape column row =
    let place : y * picture.width + x < picture.width * picture.height = mul-add-lt y picture.width x picture.height row column in
    All-get_or (λ pixel. shade picture.format pixel ≡ pixel) picture.pixels (y * picture.width + x) no_pixel (omega (arith, shape.full)) shape.shaded

-- cells of which a rectangle is moved
pub cells_moved : (width height : ℕ) (format : Format) (rect : Rect) (to : Point) (old new : List Pixel) → IsPicture (of_cells width height format old)
    → IsTrue (lies_in width height rect)
    → WritesWhere width height (holds (moved rect to)) (taken_from width old rect to) old new
    → of_cells width height format new ≡ copied (of_cells width height format old) rect to (of_cells width height format old)
unfolding copied
cells_moved width height format rect to old new shape inside writes =
    cells_redrawn width height format (holds (moved rect to)) (taken_from width old rect to)
    (λ x y. shade format (pixel_at (of_cells width height format old) (x - to.x + rect.left) (y - to.y + rect.top))) old new writes
    (λ x y hit _ _.
    let column = came_column rect to width height x y inside hit in
    let row = came_row rect to width height x y inside hit in
    sym (shade-pixel_at (of_cells width height format old) (x - to.x + rect.left) (y - to.y + rect.top) shape column row
    ∙ pixel_at-of_cells width height format old (x - to.x + rect.left) (y - to.y + rect.top) column row))

-- cells to which a rectangle of others is taken
pub cells_copied : (width height from_width from_height : ℕ) (format from_format : Format) (rect : Rect) (to : Point) (from old new : List Pixel)
    → IsTrue (lies_in from_width from_height rect)
    → WritesWhere width height (holds (moved rect to)) (λ x y. shade format (taken_from from_width from rect to x y)) old new
    → of_cells width height format new ≡ copied (of_cells from_width from_height from_format from) rect to (of_cells width height format old)
unfolding copied
cells_copied width height from_width from_height format from_format rect to from old new inside writes =
    cells_redrawn width height format (holds (moved rect to)) (λ x y. shade format (taken_from from_width from rect to x y))
    (λ x y. shade format (pixel_at (of_cells from_width from_height from_format from) (x - to.x + rect.left) (y - to.y + rect.top))) old new writes
    (λ x y hit _ _.
    ap (shade format) (sym (pixel_at-of_cells from_width from_height from_format from (x - to.x + rect.left) (y - to.y + rect.top)
    (came_column rect to from_width from_height x y inside hit) (came_row rect to from_width from_height x y inside hit))))

-- a place of a rectangle has a pixel among those of the rectangle
in_its_pixels : (rect : Rect) (x y : ℕ) → holds rect x y ≡ true → (y - rect.top) * width_of rect + (x - rect.left) < width_of rect * height_of rect
in_its_pixels rect x y hit = mul-add-lt (y - rect.top) (width_of rect) (x - rect.left) (height_of rect) (low rect x y hit) (wide rect x y hit)
  where
    low : (rect : Rect) (x y : ℕ) → holds rect x y ≡ true → y - rect.top < height_of rect
    low rect x y hit = grind (arith, nat_tests)

    wide : (rect : Rect) (x y : ℕ) → holds rect x y ≡ true → x - rect.left < width_of rect
    wide rect x y hit = grind (arith, nat_tests)

-- cells with pixels in a rectangle
pub cells_overlaid : (width height : ℕ) (format keeps : Format) (rect : Rect) (from old new : List Pixel)
    → length from ≡ width_of rect * height_of rect → map (shade keeps) from ≡ map (shade format) from
    → WritesWhere width height (holds rect) (λ x y. shade keeps (in_rect rect from x y)) old new
    → of_cells width height format new ≡ overlaid (of_cells width height format old) rect from
unfolding overlaid
cells_overlaid width height format keeps rect from old new whole alike writes =
    cells_redrawn width height format (holds rect) (λ x y. shade keeps (in_rect rect from x y)) (λ x y. shade format (in_rect rect from x y)) old new writes
    (λ x y hit _ _.
    let below : (y - rect.top) * width_of rect + (x - rect.left) < length from = subst (λ n. (y - rect.top) * width_of rect + (x - rect.left) < n) (sym whole) (in_its_pixels rect x y hit) in
    each_alike keeps format from ((y - rect.top) * width_of rect + (x - rect.left)) alike below)

-- data as a format keeps them that keeps what two formats keep
raw-both : (both first second : Format) (bytes : List ℕ) → ((pixel : Pixel) → shade both pixel ≡ shade first (shade second pixel))
    → raw_pixels both bytes ≡ map (shade first) (raw_pixels second bytes)
unfolding raw_pixels
raw-both both first second (b ∷ g ∷ r ∷ a ∷ rest) keeps =
    λ i. keeps (record { b = b; g = g; r = r; a = a }) i ∷ raw-both both first second rest keeps i
raw-both both first second [] keeps = refl
raw-both both first second (b ∷ []) keeps = refl
raw-both both first second (b ∷ g ∷ []) keeps = refl
raw-both both first second (b ∷ g ∷ r ∷ []) keeps = refl

-- cells with the pixels of data in a rectangle
pub cells_raw : (width height : ℕ) (format both data_format : Format) (rect : Rect) (bytes : List ℕ) (old new : List Pixel)
    → ((pixel : Pixel) → shade both pixel ≡ shade format (shade data_format pixel)) → length bytes ≡ 4 * (width_of rect * height_of rect)
    → WritesWhere width height (holds rect) (in_rect rect (raw_pixels both bytes)) old new
    → of_cells width height format new ≡ overlaid (of_cells width height format old) rect (raw_pixels data_format bytes)
unfolding overlaid
cells_raw width height format both data_format rect bytes old new keeps whole writes =
    cells_redrawn width height format (holds rect) (in_rect rect (raw_pixels both bytes)) (λ x y. shade format (in_rect rect (raw_pixels data_format bytes) x y)) old new writes
    (λ x y hit _ _.
    ap (λ (pixels : List Pixel). in_rect rect pixels x y) (raw-both both format data_format bytes keeps)
    ∙ get_or-map (shade format) (raw_pixels data_format bytes) _ no_pixel no_pixel
    (let some = in_its_pixels rect x y hit in omega (arith, length-raw_pixels data_format (width_of rect * height_of rect) bytes whole)))

-- pixels read from cells are the rectangle's
pub rect_read : (width height : ℕ) (format : Format) (rect : Rect) (cells old new : List Pixel)
    → IsTrue (lies_in width height rect) → length old ≡ width_of rect * height_of rect → length new ≡ length old
    → WritesRows (width_of rect) (sized (width_of rect) (height_of rect)) (λ x y. kept_at width cells (x + rect.left) (y + rect.top)) old new
    → new ≡ rect_of (of_cells width height format cells) rect
rect_read width height format rect cells old new inside full same rows =
    drawn_by_all (width_of rect) (height_of rect) (λ x y. pixel_at (of_cells width height format cells) (x + rect.left) (y + rect.top)) no_pixel new (same ∙ full)
    (λ k below.
    let column = column_below k (width_of rect) (height_of rect) below in
    let row = row_below k (width_of rect) (height_of rect) below in
    let hit : holds (sized (width_of rect) (height_of rect)) (k % width_of rect) (k / width_of rect) ≡ true = in_all (width_of rect) (height_of rect) (k % width_of rect) (k / width_of rect) column row in
    rows k no_pixel (omega arith)
    ∙ ap (λ b. if b then kept_at width cells (k % width_of rect + rect.left) (k / width_of rect + rect.top) else get_or old k no_pixel) hit
    ∙ sym (pixel_at-of_cells width height format cells (k % width_of rect + rect.left) (k / width_of rect + rect.top)
    (wide rect width height (k % width_of rect) inside column) (high rect width height (k / width_of rect) inside row)))
  where
    in_all : (w h x y : ℕ) → x < w → y < h → (nat_le 0 x && nat_lt x w && nat_le 0 y && nat_lt y h) ≡ true
    in_all w h x y column row = grind (arith, nat_tests)

    wide : (rect : Rect) (width height x : ℕ) → IsTrue (lies_in width height rect) → x < width_of rect → x + rect.left < width
    wide rect width height x inside column = grind (arith, nat_tests)

    high : (rect : Rect) (width height y : ℕ) → IsTrue (lies_in width height rect) → y < height_of rect → y + rect.top < height
    high rect width height y inside row = grind (arith, nat_tests)

-- what a format keeps it keeps again
pub shade-shade : (format : Format) (pixel : Pixel) → shade format (shade format pixel) ≡ shade format pixel
shade-shade Xrgb pixel = refl
shade-shade Argb pixel = refl

shade-zero_colour : (format : Format) → shade format (zero_colour format) ≡ zero_colour format
shade-zero_colour Xrgb = refl
shade-zero_colour Argb = refl

-- pixels that are all of zero colour are as the format keeps them
pub blank_shaded : (format : Format) (count : ℕ) → All (λ pixel. shade format pixel ≡ pixel) (replicate count (zero_colour format))
blank_shaded format count = All-replicate (λ pixel. shade format pixel ≡ pixel) count (zero_colour format) (shade-zero_colour format)

-- a picture redrawn with pixels that its format keeps is a picture
pub redrawn_is_picture : (picture : Picture) (f : ℕ → ℕ → Pixel) → IsPicture picture
    → ((x y : ℕ) → x < picture.width → y < picture.height → shade picture.format (f x y) ≡ f x y) → IsPicture (redrawn picture f)
redrawn_is_picture picture f shape keeps = record {
  width_from = shape.width_from;
  width_most = shape.width_most;
  height_from = shape.height_from;
  height_most = shape.height_most;
  full = length-drawn picture.width picture.height f;
  shaded =
      All-from_get_or (λ pixel. shade picture.format pixel ≡ pixel) (drawn picture.width picture.height f) no_pixel
      (λ k below. kept k (subst (λ n. k < n) (length-drawn picture.width picture.height f) below));
}
  where
    kept : (k : ℕ) → k < picture.width * picture.height
        → shade picture.format (get_or (drawn picture.width picture.height f) k no_pixel) ≡ get_or (drawn picture.width picture.height f) k no_pixel
    kept k below =
        let is : get_or (drawn picture.width picture.height f) k no_pixel ≡ f (k % picture.width) (k / picture.width) =
        get_or-map-range_with_len (λ k. f (k % picture.width) (k / picture.width)) 0 (picture.width * picture.height) k k no_pixel below (omega arith) in
        ap (shade picture.format) is
        ∙ keeps (k % picture.width) (k / picture.width) (column_below k picture.width picture.height below) (row_below k picture.width picture.height below)
        ∙ sym is

-- and where only some places are given new pixels
pub redrawn_some : (picture : Picture) (test : ℕ → ℕ → Bool) (f : ℕ → ℕ → Pixel) → IsPicture picture
    → IsPicture (redrawn picture (λ x y. if test x y then shade picture.format (f x y) else pixel_at picture x y))
redrawn_some picture test f shape =
    redrawn_is_picture picture _ shape (λ x y column row. by x y column row (test x y))
  where
    by : (x y : ℕ) → x < picture.width → y < picture.height → (b : Bool)
        → shade picture.format (if b then shade picture.format (f x y) else pixel_at picture x y) ≡ (if b then shade picture.format (f x y) else pixel_at picture x y)
    by x y column row true = shade-shade picture.format (f x y)
    by x y column row false = shade-pixel_at picture x y shape column row

-- what each change makes of a picture is a picture
pub filled_is_picture : (picture : Picture) (rect : Rect) (colour : Pixel) → IsPicture picture → IsPicture (filled picture rect colour)
unfolding filled
filled_is_picture picture rect colour shape = redrawn_some picture (holds rect) (λ _ _. colour) shape

pub copied_is_picture : (source : Picture) (rect : Rect) (to : Point) (picture : Picture) → IsPicture picture → IsPicture (copied source rect to picture)
unfolding copied
copied_is_picture source rect to picture shape =
    redrawn_some picture (holds (moved rect to)) (λ x y. pixel_at source (x - to.x + rect.left) (y - to.y + rect.top)) shape

pub overlaid_is_picture : (picture : Picture) (rect : Rect) (pixels : List Pixel) → IsPicture picture → IsPicture (overlaid picture rect pixels)
unfolding overlaid
overlaid_is_picture picture rect pixels shape = redrawn_some picture (holds rect) (in_rect rect pixels) shape

-- no change touches the sides and the format
pub filled-width : (picture : Picture) (rect : Rect) (colour : Pixel) → (filled picture rect colour).width ≡ picture.width
unfolding filled
filled-width picture rect colour = refl

pub filled-height : (picture : Picture) (rect : Rect) (colour : Pixel) → (filled picture rect colour).height ≡ picture.height
unfolding filled
filled-height picture rect colour = refl

pub filled-format : (picture : Picture) (rect : Rect) (colour : Pixel) → (filled picture rect colour).format ≡ picture.format
unfolding filled
filled-format picture rect colour = refl

pub copied-width : (source : Picture) (rect : Rect) (to : Point) (picture : Picture) → (copied source rect to picture).width ≡ picture.width
unfolding copied
copied-width source rect to picture = refl

pub copied-height : (source : Picture) (rect : Rect) (to : Point) (picture : Picture) → (copied source rect to picture).height ≡ picture.height
unfolding copied
copied-height source rect to picture = refl

pub copied-format : (source : Picture) (rect : Rect) (to : Point) (picture : Picture) → (copied source rect to picture).format ≡ picture.format
unfolding copied
copied-format source rect to picture = refl

pub overlaid-width : (picture : Picture) (rect : Rect) (pixels : List Pixel) → (overlaid picture rect pixels).width ≡ picture.width
unfolding overlaid
overlaid-width picture rect pixels = refl

pub overlaid-height : (picture : Picture) (rect : Rect) (pixels : List Pixel) → (overlaid picture rect pixels).height ≡ picture.height
unfolding overlaid
overlaid-height picture rect pixels = refl

pub overlaid-format : (picture : Picture) (rect : Rect) (pixels : List Pixel) → (overlaid picture rect pixels).format ≡ picture.format
unfolding overlaid
overlaid-format picture rect pixels = refl

-- a filled picture has as many pixels as places
pub length-filled : (picture : Picture) (rect : Rect) (colour : Pixel) → length (filled picture rect colour).pixels ≡ picture.width * picture.height
unfolding filled
length-filled picture rect colour =
    length-drawn picture.width picture.height (λ x y. if holds rect x y then shade picture.format colour else pixel_at picture x y)

-- new cells show a new picture
pub blank_cells : (width height count : ℕ) (format : Format) → count ≡ places width height
    → of_cells width height format (replicate count (zero_colour format)) ≡ blank width height format
blank_cells width height count format counted =
    ap (λ (pixels : List Pixel). record { width = width; height = height; format = format; pixels = pixels })
    (sym (drawn_by_all width height (kept_at width (replicate count (zero_colour format))) no_pixel (replicate (width * height) (zero_colour format))
    (length-replicate (width * height) (zero_colour format))
    (λ k below.
    let inside : place width (k % width) (k / width) < count = subst (λ m. place width (k % width) (k / width) < m) (sym counted) (place_below width height (k % width) (k / width) (column_below k width height below) (row_below k width height below)) in
    get_or-replicate (width * height) k (zero_colour format) no_pixel below
    ∙ sym (get_or-replicate count (place width (k % width) (k / width)) (zero_colour format) no_pixel inside))))

-- and it is one
pub blank_is_picture : (width height : ℕ) (format : Format) → 1 ≤ width → width ≤ MOST_SIDE → 1 ≤ height → height ≤ MOST_SIDE → IsPicture (blank width height format)
blank_is_picture width height format width_from width_most height_from height_most = record {
  width_from = width_from;
  width_most = width_most;
  height_from = height_from;
  height_most = height_most;
  full = length-replicate (width * height) (zero_colour format);
  shaded = blank_shaded format (width * height);
}

-- a picture redrawn with its own pixels
pub redrawn_self : (picture : Picture) (f : ℕ → ℕ → Pixel) → IsPicture picture
    → ((x y : ℕ) → x < picture.width → y < picture.height → f x y ≡ pixel_at picture x y) → redrawn picture f ≡ picture
redrawn_self picture f shape same =
    sym (ap (λ (pixels : List Pixel). record picture { pixels = pixels })
    (drawn_by_all picture.width picture.height f no_pixel picture.pixels shape.full
    (λ k below.
    let some : 0 < picture.width = some_columns k picture.width picture.height below in
    let back : k ≡ k / picture.width * picture.width + k % picture.width = omega arith in
    ap (λ p. get_or picture.pixels p no_pixel) back
    ∙ sym (same (k % picture.width) (k / picture.width) (column_below k picture.width picture.height below) (row_below k picture.width picture.height below)))))
