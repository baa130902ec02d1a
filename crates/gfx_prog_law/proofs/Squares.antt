-- Rectangles on the cells of a surface.
use Rattle.std.proofs.Common.{◌≡◌, ◌+◌, ◌*◌, ◌<◌, ◌≤◌, ℕ, true, max, min, ap, arith}
use Rattle.std.proofs.lemmas.Bool.Decides.{nat_tests}
use Rattle.gfx_base.specs.declared.geometry.Rect.{Rect}
use Rattle.gfx_base.specs.declared.geometry.TheConstants.{CELL_SIDE}
use Rattle.gfx_base.specs.Cells.{cell, cut_to_cell}
use Rattle.gfx_base.specs.Geometry.{holds}
use Rattle.gfx_prog_decode.specs.declared.key.Key.{Key}
use Rattle.gfx_prog_decode.specs.Showing.{cell_in, has_pixel}
use Rattle.gfx_prog_encode.specs.declared.send.TileSend.{TileSend}
use Rattle.gfx_prog_encode.specs.Messages.{area_of}

-- the pixel at column x of row y is one of the cell's
pub record InCell (column row x y : ℕ) : Type 0 where
  pub left : CELL_SIDE * column ≤ x
  pub right : x < CELL_SIDE * column + CELL_SIDE
  pub top : CELL_SIDE * row ≤ y
  pub bottom : y < CELL_SIDE * row + CELL_SIDE

-- of one cell alone
pub one-cell : (a b c d x y : ℕ) → InCell a b x y → InCell c d x y → (a ≡ c) × (b ≡ d)
one-cell a b c d x y one other = (omega (arith, one.left, one.right, other.left, other.right), omega (arith, one.top, one.bottom, other.top, other.bottom))

-- what a surface has of a cell
pub cell-holds : (width height : ℕ) (key : Key) (x y : ℕ) → holds (cell_in width height key) x y ≡ true → InCell key.x key.y x y
cell-holds width height key x y hit = record {
  left = grind (arith, nat_tests);
  right = grind (arith, nat_tests);
  top = grind (arith, nat_tests);
  bottom = grind (arith, nat_tests);
}

-- a rectangle that lies in a cell
pub record LiesInCell (rect : Rect) (column row : ℕ) : Type 0 where
  pub left : CELL_SIDE * column ≤ rect.left
  pub right : rect.right ≤ CELL_SIDE * column + CELL_SIDE
  pub top : CELL_SIDE * row ≤ rect.top
  pub bottom : rect.bottom ≤ CELL_SIDE * row + CELL_SIDE

pub cut-lies : (rect : Rect) (column row : ℕ) → cut_to_cell rect (cell column row) ≡ rect → LiesInCell rect column row
cut-lies rect column row cut =
    let left : max rect.left (CELL_SIDE * column) ≡ rect.left = ap (λ r. r.left) cut in
    let top : max rect.top (CELL_SIDE * row) ≡ rect.top = ap (λ r. r.top) cut in
    let right : min rect.right (CELL_SIDE * column + CELL_SIDE) ≡ rect.right = ap (λ r. r.right) cut in
    let bottom : min rect.bottom (CELL_SIDE * row + CELL_SIDE) ≡ rect.bottom = ap (λ r. r.bottom) cut in
    record { left = omega arith; right = omega arith; top = omega arith; bottom = omega arith }

-- a pixel of a tile's area is one of its rectangle
pub area-holds : (send : TileSend) (x y : ℕ) → has_pixel x y (area_of send) ≡ true → holds send.rect x y ≡ true
area-holds send x y hit = grind (arith, nat_tests)

-- and of its cell
pub rect-in-cell : (send : TileSend) (x y : ℕ) → cut_to_cell send.rect send.cell ≡ send.rect → holds send.rect x y ≡ true → InCell send.cell.x send.cell.y x y
rect-in-cell send x y cut hit =
    let lies : LiesInCell send.rect send.cell.x send.cell.y = cut-lies send.rect send.cell.x send.cell.y cut in
    by lies.left lies.right lies.top lies.bottom
  where
    by : CELL_SIDE * send.cell.x ≤ send.rect.left → send.rect.right ≤ CELL_SIDE * send.cell.x + CELL_SIDE → CELL_SIDE * send.cell.y ≤ send.rect.top → send.rect.bottom ≤ CELL_SIDE * send.cell.y + CELL_SIDE
        → InCell send.cell.x send.cell.y x y
    by left right top bottom = record {
      left = grind (arith, nat_tests);
      right = grind (arith, nat_tests);
      top = grind (arith, nat_tests);
      bottom = grind (arith, nat_tests);
    }

pub area-in-cell : (send : TileSend) (x y : ℕ) → cut_to_cell send.rect send.cell ≡ send.rect → has_pixel x y (area_of send) ≡ true → InCell send.cell.x send.cell.y x y
area-in-cell send x y cut hit = rect-in-cell send x y cut (area-holds send x y hit)
