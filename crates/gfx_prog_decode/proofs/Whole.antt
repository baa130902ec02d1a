-- A cell of which one area has all, drawn at once.
use Rattle.std.proofs.Common.{◌≡◌, ◌∙◌, ap, sym, refl, Bool, true, false, ◌&&◌, ◌||◌, nat_eq, if◌then◌else◌, ℕ, ◌+◌, ◌-◌, ◌*◌, ◌/◌, ◌%◌, ◌<◌, List, [], ◌∷◌, length, get_or, arith}
use Rattle.std.proofs.lemmas.Bool.{and_parts, eqb-true}
use Rattle.std.proofs.lemmas.Bool.Decides.{nat_tests}
use Rattle.std.proofs.lemmas.Option.{get_or_from_slice_get}
use Rattle.gfx_base.specs.declared.geometry.Rect.{Rect}
use Rattle.gfx_base.specs.declared.pixel.Pixel.{Pixel}
use Rattle.gfx_base.specs.Cells.{cell}
use Rattle.gfx_base.specs.Geometry.{holds}
use Rattle.gfx_prog_block.specs.declared.area.Area.{Area}
use Rattle.gfx_surface.specs.Picture.{Picture, AreOpaque, shade, no_pixel, pixel_at}
use Rattle.gfx_surface.specs.Views.{with_cell}
use Rattle.gfx_tile_state.specs.declared.state.TileState.{TileState}
use Rattle.gfx_tile_state.specs.Record.{pixel_of}
use Rattle.gfx_prog_decode.specs.declared.key.Key.{Key}
use Rattle.gfx_prog_decode.specs.Inside.{ArePixels, has_all, is_in_one}
use Rattle.gfx_prog_decode.specs.Showing.{cell_in, covered, has_pixel, shown_in, tile_pixel}
use Rattle.gfx_prog_decode.proofs.CellLemmas.{cell_place}
use Rattle.gfx_prog_decode.proofs.Pictures.{redrawn_same}

-- an area that has all of a cell has each of its pixels
each_pixel : (rect : Rect) (area : Area) (x y : ℕ) → holds rect x y ≡ true → has_all rect area ≡ true → has_pixel x y area ≡ true
each_pixel rect area x y hit all = grind (arith, nat_tests)

or_true : (b : Bool) → (b || true) ≡ true
or_true true = refl
or_true false = refl

either_has : (all has alls hases : Bool) → (all ≡ true → has ≡ true) → (alls ≡ true → hases ≡ true) → (all || alls) ≡ true → (has || hases) ≡ true
either_has true has alls hases here there any = ap (λ b. b || hases) (here refl)
either_has false has alls hases here there any = ap (λ b. has || b) (there any) ∙ or_true has

covered_all : (rect : Rect) (areas : List Area) (x y : ℕ) → holds rect x y ≡ true → is_in_one rect areas ≡ true → covered areas x y ≡ true
covered_all rect [] x y hit any = any
covered_all rect (area ∷ areas) x y hit any =
    either_has (has_all rect area) (has_pixel x y area) (is_in_one rect areas) (covered areas x y)
    (each_pixel rect area x y hit) (covered_all rect areas x y hit) any

-- a tile's pixels are opaque
pub opaque_pixels : (tile : TileState) (pixels : List Pixel) → length pixels ≡ 4096 → ArePixels tile pixels → AreOpaque pixels
opaque_pixels tile pixels long each k below =
    let place : k / 64 * 64 + k % 64 ≡ k = omega arith in
    let low : k / 64 < 64 = omega arith in
    let wide : k % 64 < 64 = omega arith in
    ap (λ n. (get_or pixels n no_pixel).a) (sym place)
    ∙ ap (λ (pixel : Pixel). pixel.a) (get_or_from_slice_get pixels (k / 64 * 64 + k % 64) (pixel_of tile (k / 64) (k % 64)) no_pixel (each (k / 64) (k % 64) low wide))

-- where a place of a cell stands in it
within_cell : (x k : ℕ) → x / 64 ≡ k → x % 64 ≡ x - 64 * k
within_cell x k same = omega (arith, same)

-- the pixel that is put in a place of a cell
put_pixel : (key : Key) (pixels : List Pixel) (tile : TileState) (x y : ℕ) → ArePixels tile pixels → (nat_eq (x / 64) key.x && nat_eq (y / 64) key.y) ≡ true
    → get_or pixels (y % 64 * 64 + x % 64) no_pixel ≡ pixel_of tile (y - 64 * key.y) (x - 64 * key.x)
put_pixel key pixels tile x y each hit =
    let both = and_parts (nat_eq (x / 64) key.x) (nat_eq (y / 64) key.y) hit in
    get_or_from_slice_get pixels (y % 64 * 64 + x % 64) (pixel_of tile (y % 64) (x % 64)) no_pixel (each (y % 64) (x % 64) (omega arith) (omega arith))
    ∙ (λ i. pixel_of tile (within_cell y key.y (eqb-true (y / 64) key.y both.1) i) (within_cell x key.x (eqb-true (x / 64) key.x both.0) i))

chosen : (here there has : Bool) (put due old : Pixel) → there ≡ here → (here ≡ true → has ≡ true) → (here ≡ true → put ≡ due) → (if here then put else old) ≡ (if there && has then due else old)
chosen true there has put due old is all same = same refl ∙ (λ i. if sym is i && sym (all refl) i then due else old)
chosen false there has put due old is all same = ap (λ b. if b && has then due else old) (sym is)

-- its pixels, put there, show the tile
pub whole_shown : (picture : Picture) (key : Key) (areas : List Area) (pixels : List Pixel) (tile : TileState)
    → is_in_one (cell_in picture.width picture.height key) areas ≡ true → ArePixels tile pixels
    → with_cell picture (cell key.x key.y) pixels ≡ shown_in picture key areas tile
unfolding with_cell shown_in
whole_shown picture key areas pixels tile all each =
    redrawn_same picture _ _ (λ x y column row.
    let here = cell_place picture.width picture.height key x y column row in
    chosen (nat_eq (x / 64) key.x && nat_eq (y / 64) key.y) (holds (cell_in picture.width picture.height key) x y) (covered areas x y)
    (shade picture.format (get_or pixels (y % 64 * 64 + x % 64) no_pixel)) (tile_pixel picture key tile x y) (pixel_at picture x y)
    here
    (λ hit. covered_all (cell_in picture.width picture.height key) areas x y (here ∙ hit) all)
    (λ hit. ap (shade picture.format) (put_pixel key pixels tile x y each hit)))
