-- The cell of a key, on a picture where it begins.
use Rattle.std.proofs.Common.{◌≡◌, ◌∙◌, ap, sym, refl, subst, IsTrue, Bool, true, false, ◌&&◌, nat_eq, nat_le, nat_lt, if◌then◌else◌, ℕ, ◌+◌, ◌*◌, ◌/◌, ◌<◌, ◌≤◌, min, List, eq-eqb, arith}
use Rattle.std.proofs.lemmas.Bool.Decides.{nat_tests}
use Rattle.std.proofs.lemmas.Bool.{eqb-true}
use Rattle.std.specs.Cmp.{both_ways}
use Rattle.gfx_base.specs.declared.geometry.Cell.{Cell}
use Rattle.gfx_base.specs.Cells.{cell, cells_along}
use Rattle.gfx_base.specs.Geometry.{holds}
use Rattle.gfx_prog_block.specs.declared.area.Area.{Area}
use Rattle.gfx_surface.specs.Kept.{ChangesOnly}
use Rattle.gfx_surface.specs.Picture.{Picture, pixel_at}
use Rattle.gfx_surface.specs.Views.{LiesOn}
use Rattle.gfx_tile_state.specs.declared.state.TileState.{TileState}
use Rattle.gfx_prog_decode.specs.Coding.{begins_in}
use Rattle.gfx_prog_decode.specs.declared.key.Key.{Key}
use Rattle.gfx_prog_decode.specs.Showing.{cell_in, covered, shown_in, tile_pixel}

along : (width x : ℕ) → 64 * x < width → x < (width + 63) / 64
along width x begins = omega arith

begins_across : (width height x y : ℕ) → IsTrue (begins_in width height x y) → 64 * x < width
begins_across width height x y begins = grind (arith, nat_tests)

begins_down : (width height x y : ℕ) → IsTrue (begins_in width height x y) → 64 * y < height
begins_down width height x y begins = grind (arith, nat_tests)

-- it is one of the picture's
pub column_on : (width height x y : ℕ) → IsTrue (begins_in width height x y) → x < cells_along width
column_on width height x y begins = along width x (begins_across width height x y begins)

pub row_on : (width height x y : ℕ) → IsTrue (begins_in width height x y) → y < cells_along height
row_on width height x y begins = along height y (begins_down width height x y begins)

pub key_lies : (picture : Picture) (key : Key) (one : Cell) → one ≡ cell key.x key.y → IsTrue (begins_in picture.width picture.height key.x key.y) → LiesOn picture one
key_lies picture key one same begins = subst (LiesOn picture) (sym same) record {
  column = column_on picture.width picture.height key.x key.y begins;
  row = row_on picture.width picture.height key.x key.y begins;
}

-- ---- its pixels

side_there : (most k x : ℕ) → x < most → (nat_le (64 * k) x && nat_lt x (min (64 * k + 64) most)) ≡ true → nat_eq (x / 64) k ≡ true
side_there most k x within hit = let same : x / 64 ≡ k = omega (arith, low most k x hit, high most k x hit) in eq-eqb (x / 64) k same
  where
    low : (most k x : ℕ) → (nat_le (64 * k) x && nat_lt x (min (64 * k + 64) most)) ≡ true → 64 * k ≤ x
    low most k x hit = grind (arith, nat_tests)

    high : (most k x : ℕ) → (nat_le (64 * k) x && nat_lt x (min (64 * k + 64) most)) ≡ true → x < 64 * k + 64
    high most k x hit = grind (arith, nat_tests)

side_back : (most k x : ℕ) → x < most → nat_eq (x / 64) k ≡ true → (nat_le (64 * k) x && nat_lt x (min (64 * k + 64) most)) ≡ true
side_back most k x within hit =
    let same : x / 64 ≡ k = eqb-true (x / 64) k hit in
    tested most k x within (omega (arith, same)) (omega (arith, same))
  where
    tested : (most k x : ℕ) → x < most → 64 * k ≤ x → x < 64 * k + 64 → (nat_le (64 * k) x && nat_lt x (min (64 * k + 64) most)) ≡ true
    tested most k x within low high = grind (arith, nat_tests)

-- a place of one side is in the key's column, or row, of cells
side : (most k x : ℕ) → x < most → (nat_le (64 * k) x && nat_lt x (min (64 * k + 64) most)) ≡ nat_eq (x / 64) k
side most k x within = both_ways _ _ (side_there most k x within) (side_back most k x within)

paired : (a b c d : Bool) → (a && b && c && d) ≡ ((a && b) && (c && d))
paired false b c d = refl
paired true false c d = refl
paired true true c d = refl

-- the pixels of what lies on a picture of it are those whose column and row of cells are its own
pub cell_place : (width height : ℕ) (key : Key) (x y : ℕ) → x < width → y < height → holds (cell_in width height key) x y ≡ (nat_eq (x / 64) key.x && nat_eq (y / 64) key.y)
cell_place width height key x y column row =
    paired (nat_le (64 * key.x) x) (nat_lt x (min (64 * key.x + 64) width)) (nat_le (64 * key.y) y) (nat_lt y (min (64 * key.y + 64) height))
    ∙ (λ i. side width key.x x column i && side height key.y y row i)

-- no others are drawn where a tile is
pub shown_changes : (picture : Picture) (key : Key) (areas : List Area) (tile : TileState) → ChangesOnly (cell key.x key.y) picture (shown_in picture key areas tile)
unfolding shown_in
shown_changes picture key areas tile = record {
  pixels = λ x y. if holds (cell_in picture.width picture.height key) x y && covered areas x y then tile_pixel picture key tile x y else pixel_at picture x y;
  picture = refl;
  outside = λ x y column row out.
      ap (λ b. if b && covered areas x y then tile_pixel picture key tile x y else pixel_at picture x y) (cell_place picture.width picture.height key x y column row ∙ out);
}
