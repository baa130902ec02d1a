-- The cells of a block, place by place.
use Rattle.std.proofs.Common.{◌≡◌, ◌∙◌, ap, sym, refl, ℕ, zero, suc, ◌+◌, ◌-◌, ◌*◌, ◌/◌, ◌%◌, ◌<◌, ◌≤◌, Bool, true, List, ◌++◌, map, length, length-append, get_or, subst, arith, zero-mul}
use Rattle.std.specs.List.{list_any, range_with_len}
use Rattle.std.proofs.Math.ListN.{get_or-append}
use Rattle.std.proofs.lemmas.List.{get_or-append-add, get_or_default}
use Rattle.std.proofs.lemmas.List.Folds.{Any-from_list_any, list_any_at}
use Rattle.std.proofs.lemmas.List.FromFn.{length-map-range_with_len, get_or-map-range_with_len}
use Rattle.std.proofs.lemmas.Nat.{div_below, mul-add-lt}
use Rattle.gfx_base.specs.declared.geometry.Cell.{Cell}
use Rattle.gfx_base.specs.Blocks.{block}
use Rattle.gfx_base.specs.Cells.{cell}

some_columns : (k width height : ℕ) → k < width * height → 0 < width
some_columns k zero height below = let none : 0 * height ≡ 0 = zero-mul height in omega arith
some_columns k (suc width) height below = omega arith

-- the cells of one row
abbrev row : ℕ → ℕ → ℕ → List Cell
row left columns y = map (λ x. cell x y) (range_with_len left columns)

-- how many there are
pub length-block : (left top columns rows : ℕ) → length (block left top columns rows) ≡ rows * columns
length-block left top columns zero = omega arith
length-block left top columns (suc rows) =
    length-append (row left columns top) (block left (top + 1) columns rows)
    ∙ (λ i. length-map-range_with_len {X = Cell} (λ x. cell x top) left columns i + length-block left (top + 1) columns rows i)
    ∙ omega arith

-- the cell in a column of a row
pub get_or-block : (left top columns rows q r : ℕ) → q < rows → r < columns
    → get_or (block left top columns rows) (q * columns + r) (cell 0 0) ≡ (cell (left + r) (top + q))
get_or-block left top columns zero q r h k = absurd (omega arith)
get_or-block left top columns (suc rows) zero r h k =
    let here : 0 * columns + r ≡ r = omega arith in
    let same : top ≡ top + 0 = omega arith in
    let inside : r < length (row left columns top) = omega (arith, length-map-range_with_len {X = Cell} (λ x. cell x top) left columns) in
    ap (λ n. get_or (row left columns top ++ block left (top + 1) columns rows) n (cell 0 0)) here
    ∙ get_or-append (row left columns top) (block left (top + 1) columns rows) (cell 0 0) r inside
    ∙ get_or-map-range_with_len {X = Cell} (λ x. cell x top) left columns r (left + r) (cell 0 0) k refl
    ∙ (λ i. cell (left + r) (same i))
get_or-block left top columns (suc rows) (suc q) r h k =
    let here : suc q * columns + r ≡ length (row left columns top) + (q * columns + r) = omega (arith, length-map-range_with_len {X = Cell} (λ x. cell x top) left columns) in
    let same : top + 1 + q ≡ top + suc q = omega arith in
    ap (λ n. get_or (row left columns top ++ block left (top + 1) columns rows) n (cell 0 0)) here
    ∙ get_or-append-add (row left columns top) (block left (top + 1) columns rows) (q * columns + r) (cell 0 0)
    ∙ get_or-block left (top + 1) columns rows q r (omega arith) k
    ∙ (λ i. cell (left + r) (same i))

-- what is known of a place of the list: its column and its row, counted from 0
pub record IsPlaced (columns rows k : ℕ) : Type 0 where
  pub some : 0 < columns
  pub across : k % columns < columns
  pub down : k / columns < rows
  pub whole : k ≡ k / columns * columns + k % columns

pub placed_at : (left top columns rows k : ℕ) → k < length (block left top columns rows) → IsPlaced columns rows k
placed_at left top columns rows k h =
    let below : k < rows * columns = omega (arith, length-block left top columns rows) in
    let turned : k < columns * rows = omega arith in
    let filled : 0 < columns = some_columns k columns rows turned in
    record { some = filled; across = omega arith; down = div_below k columns rows filled below; whole = omega arith }

-- the cell at a place
pub cell_at : (left top columns rows k : ℕ) → k < length (block left top columns rows)
    → get_or (block left top columns rows) k (cell 0 0) ≡ (cell (left + k % columns) (top + k / columns))
cell_at left top columns rows k h =
    let p : IsPlaced columns rows k = placed_at left top columns rows k h in
    ap (λ n. get_or (block left top columns rows) n (cell 0 0)) p.whole
    ∙ get_or-block left top columns rows (k / columns) (k % columns) p.down p.across

-- no cell stands twice
pub cells_apart : (left top columns rows j k : ℕ) → j < k → k < length (block left top columns rows)
    → get_or (block left top columns rows) j (cell 0 0) ≡ get_or (block left top columns rows) k (cell 0 0) → ⊥
cells_apart left top columns rows j k before h same =
    let within : j < length (block left top columns rows) = omega arith in
    let p : IsPlaced columns rows j = placed_at left top columns rows j within in
    let q : IsPlaced columns rows k = placed_at left top columns rows k h in
    let pairs : ◌≡◌ {A = Cell} (cell (left + j % columns) (top + j / columns)) (cell (left + k % columns) (top + k / columns)) = sym (cell_at left top columns rows j within) ∙ same ∙ cell_at left top columns rows k h in
    let columns_same : left + j % columns ≡ left + k % columns = ap (λ (c : Cell). c.x) pairs in
    let rows_same : top + j / columns ≡ top + k / columns = ap (λ (c : Cell). c.y) pairs in
    let quotient : j / columns ≡ k / columns = omega arith in
    let product : j / columns * columns ≡ k / columns * columns = ap (λ n. n * columns) quotient in
    omega (arith, p.whole, q.whole)

-- a cell of the block passes a test
pub in_block : (p : Cell → Bool) (left top columns rows x y : ℕ) → left ≤ x → x < left + columns → top ≤ y → y < top + rows → p (cell x y) ≡ true
    → list_any p (block left top columns rows) ≡ true
in_block p left top columns rows x y from_left to_right from_top to_bottom is =
    let across : x - left < columns = omega arith in
    let down : y - top < rows = omega arith in
    let column : left + (x - left) ≡ x = omega arith in
    let line : top + (y - top) ≡ y = omega arith in
    let below : (y - top) * columns + (x - left) < length (block left top columns rows) = omega (arith, length-block left top columns rows, mul-add-lt (y - top) columns (x - left) rows down across) in
    list_any_at p (block left top columns rows) ((y - top) * columns + (x - left)) (cell 0 0) below
    (ap p (get_or-block left top columns rows (y - top) (x - left) down across ∙ (λ i. cell (column i) (line i))) ∙ is)

-- a cell of the block that passes a test
pub record Found (p : Cell → Bool) (left top columns rows : ℕ) : Type 0 where
  pub x : ℕ
  pub y : ℕ
  pub from_left : left ≤ x
  pub to_right : x < left + columns
  pub from_top : top ≤ y
  pub to_bottom : y < top + rows
  pub passes : p (cell x y) ≡ true

-- there is one where a test finds one
pub found : (p : Cell → Bool) (left top columns rows : ℕ) → list_any p (block left top columns rows) ≡ true → Found p left top columns rows
found p left top columns rows any =
    let some = Any-from_list_any p (block left top columns rows) any in
    let k : ℕ = some.0 in
    let one : Cell = some.1 in
    let below : k < length (block left top columns rows) = some.2 in
    let placed : IsPlaced columns rows k = placed_at left top columns rows k below in
    record {
      x = left + k % columns;
      y = top + k / columns;
      from_left = omega arith;
      to_right = omega (arith, placed.across);
      from_top = omega arith;
      to_bottom = omega (arith, placed.down);
      passes =
          ap p (sym (cell_at left top columns rows k below) ∙ get_or_default (block left top columns rows) k (cell 0 0) one below ∙ some.3)
          ∙ some.4;
    }

-- the same where the list and its columns are told otherwise
pub placed_in : (left top columns rows n place : ℕ) (cells : List Cell) → block left top columns rows ≡ cells → n ≡ columns → place < length cells → IsPlaced n rows place
placed_in left top columns rows n place cells is same h =
    subst (λ m. IsPlaced m rows place) (sym same) (placed_at left top columns rows place (subst (λ (list : List Cell). place < length list) (sym is) h))

pub cell_in : (left top columns rows n place : ℕ) (cells : List Cell) → block left top columns rows ≡ cells → n ≡ columns → place < length cells
    → ◌≡◌ {A = Cell} (cell (left + place % n) (top + place / n)) (get_or cells place (cell 0 0))
cell_in left top columns rows n place cells is same h =
    (λ i. (cell (left + place % same i) (top + place / same i)))
    ∙ sym (cell_at left top columns rows place (subst (λ (list : List Cell). place < length list) (sym is) h))
    ∙ ap (λ (list : List Cell). get_or list place (cell 0 0)) is
