-- What a paint changes: each pixel of its rectangle, to its own square's colour.
use Rattle.std.proofs.Common.{◌≡◌, ◌∙◌, ℕ, ◌+◌, ◌-◌, ◌*◌, ◌/◌, ◌%◌, ◌<◌, ◌≤◌, Bool, true, false, ◌||◌, if◌then◌else◌, List, [], ◌∷◌, map, refl, sym, ap, subst, arith}
use Rattle.std.proofs.lemmas.Bool.Decides.{nat_tests}
use Rattle.std.specs.List.{AllByRecursion, list_any}
use Rattle.std.specs.Prelude.{min}
use Rattle.gfx_base.specs.declared.geometry.Cell.{Cell}
use Rattle.gfx_base.specs.declared.geometry.Point.{Point}
use Rattle.gfx_base.specs.declared.geometry.Rect.{Rect}
use Rattle.gfx_base.specs.declared.pixel.Pixel.{Pixel}
use Rattle.gfx_base.specs.Cells.{cell, has_pixels}
use Rattle.gfx_base.specs.Geometry.{holds, moved}
use Rattle.gfx_quant.specs.declared.setting.Setting.{Setting}
use Rattle.gfx_script.specs.declared.picture.Picture.{Picture as Drawing}
use Rattle.gfx_surface.specs.Picture.{IsPicture, Picture, no_pixel, pixel_at, shade}
use Rattle.gfx_surface.proofs.PictureLemmas.{pixel_at-drawn, redrawn_some}
use Rattle.gfx_tile_make.specs.Levels.{direct_pixel}
use Rattle.gfx_prog_law.proofs.Apart.{Met, at-cell}
use Rattle.gfx_rfx_video.specs.declared.video_tile.VideoTile.{VideoTile}
use Rattle.gfx_rfx_video.specs.Painted.{all_painted, tile_painted}
use Rattle.gfx_rfx_video.specs.Showing.{drawn_where}
use Rattle.gfx_rfx_video.proofs.Drawn.{drawn-none, drawn-same, drawn-twice}
use Rattle.gfx_video_paint.specs.Inside.{HasSome}
use Rattle.gfx_video_paint.specs.Shown.{IsFilled, VideoPaintsCover, shown_as_video, video_pixel}
use Rattle.gfx_video_paint.specs.Video.{laid, squares_of, video_tile, video_tiles}

-- ---- a picture at a place

-- fills its rectangle there
pub placed-filled : (picture : Drawing) (at : Point) → IsFilled picture (moved (laid picture) at)
placed-filled picture at = record { width = omega arith; height = omega arith }

-- which has pixels where the picture has
pub placed-some : (picture : Drawing) (at : Point) → has_pixels (moved (laid picture) at) ≡ true → HasSome picture
placed-some picture at some = grind (arith, nat_tests)

-- ---- the part of a rectangle in a square, from the rectangle's corner

abbrev pub part : Rect → Cell → Rect
part rect square = record {
  left = rect.left + 64 * square.x;
  top = rect.top + 64 * square.y;
  right = min (rect.left + 64 * square.x + 64) rect.right;
  bottom = min (rect.top + 64 * square.y + 64) rect.bottom;
}

-- a pixel of it
record InPart (rect : Rect) (square : Cell) (x y : ℕ) : Type 0 where
  left : rect.left + 64 * square.x ≤ x
  right : x < rect.left + 64 * square.x + 64
  top : rect.top + 64 * square.y ≤ y
  bottom : y < rect.top + 64 * square.y + 64

in-part : (rect : Rect) (square : Cell) (x y : ℕ) → holds (part rect square) x y ≡ true → InPart rect square x y
in-part rect square x y hit = record {
  left = grind (arith, nat_tests);
  right = grind (arith, nat_tests);
  top = grind (arith, nat_tests);
  bottom = grind (arith, nat_tests);
}

-- which is one of the rectangle
in-rect : (rect : Rect) (square : Cell) (x y : ℕ) → holds (part rect square) x y ≡ true → holds rect x y ≡ true
in-rect rect square x y hit = grind (arith, nat_tests)

-- a pixel of a rectangle
record InRect (rect : Rect) (x y : ℕ) : Type 0 where
  left : rect.left ≤ x
  right : x < rect.right
  top : rect.top ≤ y
  bottom : y < rect.bottom

inside : (rect : Rect) (x y : ℕ) → holds rect x y ≡ true → InRect rect x y
inside rect x y hit = record {
  left = grind (arith, nat_tests);
  right = grind (arith, nat_tests);
  top = grind (arith, nat_tests);
  bottom = grind (arith, nat_tests);
}

held : (rect : Rect) (x y : ℕ) → rect.left ≤ x → x < rect.right → rect.top ≤ y → y < rect.bottom → holds rect x y ≡ true
held rect x y left right top bottom = grind (arith, nat_tests)

-- is one of its square's part
own-part : (rect : Rect) (x y : ℕ) → holds rect x y ≡ true → holds (part rect (cell ((x - rect.left) / 64) ((y - rect.top) / 64))) x y ≡ true
own-part rect x y hit =
    let there : InRect rect x y = inside rect x y hit in
    held (part rect (cell ((x - rect.left) / 64) ((y - rect.top) / 64))) x y (omega (arith, there.left)) (omega (arith, there.left, there.right)) (omega (arith, there.top)) (omega (arith, there.top, there.bottom))

own-met : (picture : Drawing) (rect : Rect) (x y : ℕ) → IsFilled picture rect → holds rect x y ≡ true → Met (laid picture) (cell ((x - rect.left) / 64) ((y - rect.top) / 64))
own-met picture rect x y filled hit =
    let there : InRect rect x y = inside rect x y hit in record {
      left = omega arith;
      right = omega (arith, there.left, there.right, filled.width);
      top = omega arith;
      bottom = omega (arith, there.top, there.bottom, filled.height);
    }

-- ---- all squares

none-of : (test : Cell → Bool) (squares : List Cell) → list_any test squares ≡ false → AllByRecursion (λ c. test c ≡ false) squares
none-of test [] none = tt
none-of test (square ∷ squares) none = let both = rest (test square) none in (both.0, none-of test squares both.1)
  where
    rest : (b : Bool) → (b || list_any test squares) ≡ false → (b ≡ false) × (list_any test squares ≡ false)
    rest true e = cc
    rest false e = (refl, e)

nowhere : (test : Cell → Bool) (squares : List Cell) → ((c : Cell) → test c ≡ false) → list_any test squares ≡ false
nowhere test [] none = refl
nowhere test (square ∷ squares) none = ap (λ b. b || list_any test squares) (none square) ∙ nowhere test squares none

differ : (b : Bool) → b ≡ true → b ≡ false → ⊥
differ true e f = cc
differ false e f = cc

-- the squares of a picture have all of a rectangle that it fills, and no more
all-parts : (picture : Drawing) (rect : Rect) (x y : ℕ) → IsFilled picture rect → list_any (λ c. holds (part rect c) x y) (squares_of picture) ≡ holds rect x y
all-parts picture rect x y filled = by (holds rect x y) refl
  where
    missed : (c : Cell) → holds rect x y ≡ false → (b : Bool) → holds (part rect c) x y ≡ b → b ≡ false
    missed c miss true hit = absurd (differ (holds rect x y) (in-rect rect c x y hit) miss)
    missed c miss false hit = refl

    found : holds rect x y ≡ true → (b : Bool) → list_any (λ c. holds (part rect c) x y) (squares_of picture) ≡ b → b ≡ true
    found hit true is = refl
    found hit false is =
        absurd (differ (holds (part rect (cell ((x - rect.left) / 64) ((y - rect.top) / 64))) x y) (own-part rect x y hit)
        (at-cell (λ c. holds (part rect c) x y ≡ false) (laid picture) (cell ((x - rect.left) / 64) ((y - rect.top) / 64)) (none-of (λ c. holds (part rect c) x y) (squares_of picture) is)
        (own-met picture rect x y filled hit)))

    by : (b : Bool) → holds rect x y ≡ b → list_any (λ c. holds (part rect c) x y) (squares_of picture) ≡ holds rect x y
    by true hit = found hit (list_any (λ c. holds (part rect c) x y) (squares_of picture)) refl ∙ sym hit
    by false miss = nowhere (λ c. holds (part rect c) x y) (squares_of picture) (λ c. missed c miss (holds (part rect c) x y) refl) ∙ sym miss

-- ---- their tiles

module _ (setting : Setting) (picture : Drawing) (rect : Rect) where
  -- the colour at a place of the surface
  abbrev pub colour : ℕ → ℕ → Pixel
  colour x y = video_pixel setting picture (x - rect.left) (y - rect.top)

  abbrev tile : Cell → VideoTile
  tile square = video_tile setting picture square

  -- that of a square's tile, in its part
  tile-colour : (square : Cell) (x y : ℕ) → holds (part rect square) x y ≡ true
      → direct_pixel (tile square).tile (y - (rect.top + 64 * square.y)) (x - (rect.left + 64 * square.x)) ≡ colour x y
  unfolding video_pixel
  tile-colour square x y hit =
      let there : InPart rect square x y = in-part rect square x y hit in
      let column : square.x ≡ (x - rect.left) / 64 = omega (arith, there.left, there.right) in
      let row : square.y ≡ (y - rect.top) / 64 = omega (arith, there.top, there.bottom) in
      let across : x - (rect.left + 64 * square.x) ≡ (x - rect.left) % 64 = omega (arith, there.left, there.right) in
      let down : y - (rect.top + 64 * square.y) ≡ (y - rect.top) % 64 = omega (arith, there.top, there.bottom) in
      λ i. direct_pixel (tile (cell (column i) (row i))).tile (down i) (across i)

  painted-part : (square : Cell) (surface : Picture) → tile_painted rect (tile square) surface ≡ drawn_where (holds (part rect square)) colour surface
  unfolding tile_painted video_tile
  painted-part square surface =
      drawn-same surface (holds (part rect square)) (holds (part rect square)) (λ x y. direct_pixel (tile square).tile (y - (rect.top + 64 * square.y)) (x - (rect.left + 64 * square.x))) colour
      (λ x y column row. refl) (tile-colour square)

  painted-parts : (squares : List Cell) (surface : Picture) → IsPicture surface
      → all_painted rect (map tile squares) surface ≡ drawn_where (λ x y. list_any (λ c. holds (part rect c) x y) squares) colour surface
  unfolding all_painted
  painted-parts [] surface shape = drawn-none surface (λ x y. false) colour shape (λ x y column row. refl)
  painted-parts (square ∷ squares) surface shape =
      ap (all_painted rect (map tile squares)) (painted-part square surface)
      ∙ painted-parts squares (drawn_where (holds (part rect square)) colour surface) (redrawn_some surface (holds (part rect square)) colour shape)
      ∙ drawn-twice surface (holds (part rect square)) (λ x y. list_any (λ c. holds (part rect c) x y) squares) colour

pub paints-cover : VideoPaintsCover
unfolding shown_as_video
paints-cover setting picture rect surface shape filled =
    painted-parts setting picture rect (squares_of picture) surface shape
    ∙ drawn-same surface (λ x y. list_any (λ c. holds (part rect c) x y) (squares_of picture)) (holds rect) (colour setting picture rect) (colour setting picture rect)
    (λ x y column row. all-parts picture rect x y filled) (λ x y hit. refl)

-- ---- what stays

tiles-width : (rect : Rect) (tiles : List VideoTile) (surface : Picture) → (all_painted rect tiles surface).width ≡ surface.width
unfolding all_painted tile_painted
tiles-width rect [] surface = refl
tiles-width rect (t ∷ tiles) surface = tiles-width rect tiles (tile_painted rect t surface)

tiles-height : (rect : Rect) (tiles : List VideoTile) (surface : Picture) → (all_painted rect tiles surface).height ≡ surface.height
unfolding all_painted tile_painted
tiles-height rect [] surface = refl
tiles-height rect (t ∷ tiles) surface = tiles-height rect tiles (tile_painted rect t surface)

tiles-format : (rect : Rect) (tiles : List VideoTile) (surface : Picture) → (all_painted rect tiles surface).format ≡ surface.format
unfolding all_painted tile_painted
tiles-format rect [] surface = refl
tiles-format rect (t ∷ tiles) surface = tiles-format rect tiles (tile_painted rect t surface)

-- the sides and the format of a surface
pub shown-width : (setting : Setting) (picture : Drawing) (rect : Rect) (surface : Picture) → (shown_as_video setting picture rect surface).width ≡ surface.width
unfolding shown_as_video
shown-width setting picture rect surface = tiles-width rect (video_tiles setting picture) surface

pub shown-height : (setting : Setting) (picture : Drawing) (rect : Rect) (surface : Picture) → (shown_as_video setting picture rect surface).height ≡ surface.height
unfolding shown_as_video
shown-height setting picture rect surface = tiles-height rect (video_tiles setting picture) surface

pub shown-format : (setting : Setting) (picture : Drawing) (rect : Rect) (surface : Picture) → (shown_as_video setting picture rect surface).format ≡ surface.format
unfolding shown_as_video
shown-format setting picture rect surface = tiles-format rect (video_tiles setting picture) surface

-- it is a picture still
pub shown-is-picture : (setting : Setting) (picture : Drawing) (rect : Rect) (surface : Picture) → IsPicture surface → IsFilled picture rect → IsPicture (shown_as_video setting picture rect surface)
shown-is-picture setting picture rect surface shape filled =
    subst IsPicture (sym (paints-cover setting picture rect surface shape filled)) (redrawn_some surface (holds rect) (colour setting picture rect) shape)

module _ (setting : Setting) (picture : Drawing) (rect : Rect) (surface : Picture) (shape : IsPicture surface) (filled : IsFilled picture rect) (x y : ℕ) (column : x < surface.width)
    (row : y < surface.height) where
  -- the pixel at a place
  pub shown-pixel : pixel_at (shown_as_video setting picture rect surface) x y
      ≡ (if holds rect x y then shade surface.format (video_pixel setting picture (x - rect.left) (y - rect.top)) else pixel_at surface x y)
  shown-pixel =
      ap (λ p. pixel_at p x y) (paints-cover setting picture rect surface shape filled)
      ∙ pixel_at-drawn surface.width surface.height x y (λ x y. if holds rect x y then shade surface.format (colour setting picture rect x y) else pixel_at surface x y) no_pixel column row

  -- that of the rectangle
  pub shown-there : holds rect x y ≡ true → pixel_at (shown_as_video setting picture rect surface) x y ≡ shade surface.format (video_pixel setting picture (x - rect.left) (y - rect.top))
  shown-there hit = shown-pixel ∙ ap (λ b. if b then shade surface.format (video_pixel setting picture (x - rect.left) (y - rect.top)) else pixel_at surface x y) hit

  -- one outside of it
  pub shown-elsewhere : holds rect x y ≡ false → pixel_at (shown_as_video setting picture rect surface) x y ≡ pixel_at surface x y
  shown-elsewhere miss = shown-pixel ∙ ap (λ b. if b then shade surface.format (video_pixel setting picture (x - rect.left) (y - rect.top)) else pixel_at surface x y) miss
