-- Where the pixels of a surface stand in its cells.
use Rattle.std.proofs.Common.{◌≡◌, sym, ◌∙◌, ◌⊎◌, inl, inr, ℕ, ◌+◌, ◌-◌, ◌*◌, ◌/◌, ◌%◌, ◌<◌, ◌≤◌, arith}
use Rattle.std.proofs.lemmas.Bool.{cases_lt}
use Rattle.std.proofs.lemmas.Nat.{mul-add-lt, same_from_place}
use Rattle.gfx_base.specs.declared.geometry.Cell.{Cell}
use Rattle.gfx_base.specs.Cells.{cells_along}
use Rattle.gfx_surface.specs.Cells.{cell_start, places, place}

-- a column or a row lies in one of the cells there
cell_below : (x side : ℕ) → x < side → x / 64 < cells_along side
cell_below x side below = omega arith

-- each place is one of the cells'
pub place_below : (width height x y : ℕ) → x < width → y < height → place width x y < places width height
unfolding place
place_below width height x y column row =
    let cell = mul-add-lt (y / 64) (cells_along width) (x / 64) (cells_along height) (cell_below y height row) (cell_below x width column) in
    let inner : y % 64 * 64 + x % 64 < 4096 = omega arith in
    mul-add-lt (y / 64 * cells_along width + x / 64) 4096 (y % 64 * 64 + x % 64) (cells_along width * cells_along height) cell inner

-- two pixels stand at two places
pub one_place : (width x y i j : ℕ) → x < width → i < width → place width i j ≡ place width x y → (i ≡ x) × (j ≡ y)
unfolding place
one_place width x y i j column column' same =
    let inner : y % 64 * 64 + x % 64 < 4096 = omega arith in
    let inner' : j % 64 * 64 + i % 64 < 4096 = omega arith in
    let outer = same_from_place (j / 64 * cells_along width + i / 64) (j % 64 * 64 + i % 64) (y / 64 * cells_along width + x / 64) (y % 64 * 64 + x % 64) 4096 inner' inner same in
    let cell = same_from_place (j / 64) (i / 64) (y / 64) (x / 64) (cells_along width) (cell_below i width column') (cell_below x width column) outer.0 in
    let low : x % 64 < 64 = omega arith in
    let low' : i % 64 < 64 = omega arith in
    let within = same_from_place (j % 64) (i % 64) (y % 64) (x % 64) 64 low' low outer.1 in
    (join i x cell.1 within.1, join j y cell.0 within.0)
  where
    join : (a b : ℕ) → a / 64 ≡ b / 64 → a % 64 ≡ b % 64 → a ≡ b
    join a b high low = omega arith

-- the places of one cell's row stand one after another
pub place_along : (width x y j : ℕ) → x % 64 + j < 64 → place width (x + j) y ≡ place width x y + j
unfolding place
place_along width x y j fits =
    let a : (x + j) / 64 ≡ x / 64 = omega arith in
    let b : (x + j) % 64 ≡ x % 64 + j = omega arith in
    (λ i. cell_start width (a i) (y / 64) + (y % 64 * 64 + b i)) ∙ last (cell_start width (x / 64) (y / 64)) (y % 64 * 64) (x % 64) j
  where
    last : (a b c d : ℕ) → a + (b + (c + d)) ≡ a + (b + c) + d
    last a b c d = omega arith

-- a row of a cell is a cell's places behind that of the cell before
pub place_next : (width x y : ℕ) → x % 64 ≡ 0 → place width (x + 64) y ≡ place width x y + 4096
unfolding place
place_next width x y border =
    let column : (x + 64) / 64 ≡ x / 64 + 1 = omega arith in
    let there : (x + 64) % 64 ≡ x % 64 = omega arith in
    (λ i. (y / 64 * cells_along width + column i) * 4096 + (y % 64 * 64 + there i)) ∙ omega arith

-- a run of a cell's row lies among the places
pub run_within : (width height x y count : ℕ) → 0 < count → x + count ≤ width → y < height → x % 64 + count ≤ 64 → place width x y + count ≤ places width height
run_within width height x y count some columns row fits =
    let last : ℕ = count - 1 in
    let below = place_below width height (x + last) y (omega arith) row in
    let along = place_along width x y last (omega arith) in
    omega (arith, below, along)

-- a cell's places lie among all
pub cell_within : (width height column row : ℕ) → column < cells_along width → row < cells_along height
    → cell_start width column row + 4096 ≤ places width height
cell_within width height column row on on' =
    let cell = mul-add-lt row (cells_along width) column (cells_along height) on' on in omega (arith, cell)

-- a place in a cell
pub place_in_cell : (width cx cy x y : ℕ) → x < 64 → y < 64 → cell_start width cx cy + (y * 64 + x) ≡ place width (64 * cx + x) (64 * cy + y)
unfolding place
place_in_cell width cx cy x y column row =
    let a : (64 * cx + x) / 64 ≡ cx = omega arith in
    let b : (64 * cx + x) % 64 ≡ x = omega arith in
    let c : (64 * cy + y) / 64 ≡ cy = omega arith in
    let d : (64 * cy + y) % 64 ≡ y = omega arith in
    sym (λ i. cell_start width (a i) (c i) + (d i * 64 + b i))

-- two cells share no place
pub cells_apart : (width : ℕ) (first second : Cell) → first.x < cells_along width → second.x < cells_along width → ((first ≡ second) → ⊥)
    → (cell_start width first.x first.y + 4096 ≤ cell_start width second.x second.y) ⊎ (cell_start width second.x second.y + 4096 ≤ cell_start width first.x first.y)
cells_apart width first second on on' not = side (cases_lt a b) (cases_lt b a)
  where
    a : ℕ
    a = first.y * cells_along width + first.x

    b : ℕ
    b = second.y * cells_along width + second.x

    side : ((a < b) ⊎ (b ≤ a)) → ((b < a) ⊎ (a ≤ b))
        → (cell_start width first.x first.y + 4096 ≤ cell_start width second.x second.y) ⊎ (cell_start width second.x second.y + 4096 ≤ cell_start width first.x first.y)
    side (inl less) _ = inl (omega arith)
    side _ (inl more) = inr (omega arith)
    side (inr p) (inr q) =
        let same : a ≡ b = omega arith in
        let parts = same_from_place first.y first.x second.y second.x (cells_along width) on on' same in
        absurd (not (λ i. record { x = parts.1 i; y = parts.0 i }))
