-- Tiles of different cells, and the cells that a rectangle meets.
use Rattle.std.proofs.Common.{◌≡◌, ◌∙◌, ◌+◌, ◌-◌, ◌*◌, ◌/◌, ◌<◌, ◌≤◌, inl, inr, ℕ, zero, suc, true, List, [], ◌∷◌, ◌++◌, map, take, drop, Option, Some, None, refl, sym, ap, subst, arith}
use Rattle.std.specs.List.{AllByRecursion, cons_option, filter_map, flat_map, range_with_len}
use Rattle.std.proofs.lemmas.Bool.{cases_lt}
use Rattle.std.proofs.lemmas.Bool.Decides.{nat_tests}
use Rattle.gfx_base.specs.declared.geometry.Cell.{Cell}
use Rattle.gfx_base.specs.declared.geometry.Rect.{Rect}
use Rattle.gfx_base.specs.declared.geometry.TheConstants.{CELL_SIDE}
use Rattle.gfx_base.specs.Cells.{cell, cells_along, cells_between, cells_met, has_pixels}
use Rattle.gfx_prog_encode.specs.declared.send.TileSend.{TileSend}

-- ---- lists of which each has something

module _ {X : Type 0} (P Q : X → Type 0) where
  pub all-more : ((x : X) → P x → Q x) → (xs : List X) → AllByRecursion P xs → AllByRecursion Q xs
  all-more more [] all = tt
  all-more more (x ∷ xs) all = (more x all.0, all-more more xs all.1)

  pub all-with : (R : X → Type 0) → ((x : X) → P x → Q x → R x) → (xs : List X) → AllByRecursion P xs → AllByRecursion Q xs → AllByRecursion R xs
  all-with R both [] all more = tt
  all-with R both (x ∷ xs) all more = (both x all.0 more.0, all-with R both xs all.1 more.1)

module _ {X : Type 0} (P : X → Type 0) where
  pub all-append : (xs ys : List X) → AllByRecursion P xs → AllByRecursion P ys → AllByRecursion P (xs ++ ys)
  all-append [] ys all more = more
  all-append (x ∷ xs) ys all more = (all.0, all-append xs ys all.1 more)

  pub all-take : (n : ℕ) (xs : List X) → AllByRecursion P xs → AllByRecursion P (take n xs)
  all-take zero xs all = tt
  all-take (suc n) [] all = tt
  all-take (suc n) (x ∷ xs) all = (all.0, all-take n xs all.1)

  pub all-drop : (n : ℕ) (xs : List X) → AllByRecursion P xs → AllByRecursion P (drop n xs)
  all-drop zero xs all = all
  all-drop (suc n) [] all = tt
  all-drop (suc n) (x ∷ xs) all = all-drop n xs all.1

  pub all-any : ((x : X) → P x) → (xs : List X) → AllByRecursion P xs
  all-any each [] = tt
  all-any each (x ∷ xs) = (each x, all-any each xs)

-- of what is kept of a list
module _ {X Y : Type 0} (g : X → Option Y) (P : X → Type 0) (Q : Y → Type 0) (kept : (x : X) (y : Y) → P x → g x ≡ Some y → Q y) where
  all-cons : (x : X) (o : Option Y) (ys : List Y) → g x ≡ o → P x → AllByRecursion Q ys → AllByRecursion Q (cons_option o ys)
  all-cons x None ys e p all = all
  all-cons x (Some y) ys e p all = (kept x y p e, all)

  pub all-kept : (xs : List X) → AllByRecursion P xs → AllByRecursion Q (filter_map g xs)
  all-kept [] all = tt
  all-kept (x ∷ xs) all = all-cons x (g x) (filter_map g xs) refl all.0 (all-kept xs all.1)

-- of images
module _ {X Y : Type 0} (f : X → Y) (P : X → Type 0) (Q : Y → Type 0) where
  pub all-map : ((x : X) → P x → Q (f x)) → (xs : List X) → AllByRecursion P xs → AllByRecursion Q (map f xs)
  all-map each [] all = tt
  all-map each (x ∷ xs) all = (each x all.0, all-map each xs all.1)

  pub all-unmap : ((x : X) → Q (f x) → P x) → (xs : List X) → AllByRecursion Q (map f xs) → AllByRecursion P xs
  all-unmap back [] all = tt
  all-unmap back (x ∷ xs) all = (back x all.0, all-unmap back xs all.1)

-- a list of images is one of which all are kept
pub map-kept : {X Y : Type 0} (f : X → Y) (xs : List X) → filter_map (λ x. Some (f x)) xs ≡ map f xs
map-kept f [] = refl
map-kept f (x ∷ xs) = ap (λ ys. f x ∷ ys) (map-kept f xs)

-- ---- different cells

-- two are of different cells
abbrev pub DifferBy : {X : Type 0} → (X → ℕ) → (X → ℕ) → X → X → Type 0
DifferBy column row one other = column one ≡ column other → row one ≡ row other → ⊥

-- each is of another cell than those behind it
abbrev pub ApartBy : {X : Type 0} → (X → ℕ) → (X → ℕ) → List X → Type 0
ApartBy column row [] = Unit {0}
ApartBy column row (x ∷ xs) = AllByRecursion (DifferBy column row x) xs × ApartBy column row xs

abbrev pub Differ : TileSend → TileSend → Type 0
Differ one other = DifferBy (λ (send : TileSend). send.cell.x) (λ (send : TileSend). send.cell.y) one other

abbrev pub Apart : List TileSend → Type 0
Apart sends = ApartBy (λ (send : TileSend). send.cell.x) (λ (send : TileSend). send.cell.y) sends

abbrev pub CellsApart : List Cell → Type 0
CellsApart cells = ApartBy (λ (c : Cell). c.x) (λ (c : Cell). c.y) cells

pub apart-take : (n : ℕ) (sends : List TileSend) → Apart sends → Apart (take n sends)
apart-take zero sends apart = tt
apart-take (suc n) [] apart = tt
apart-take (suc n) (send ∷ sends) apart = (all-take (Differ send) n sends apart.0, apart-take n sends apart.1)

pub apart-drop : (n : ℕ) (sends : List TileSend) → Apart sends → Apart (drop n sends)
apart-drop zero sends apart = apart
apart-drop (suc n) [] apart = tt
apart-drop (suc n) (send ∷ sends) apart = apart-drop n sends apart.1

-- tiles of cells, each of its own
module _ (g : Cell → Option TileSend) (own : (c : Cell) (send : TileSend) → g c ≡ Some send → (send.cell.x ≡ c.x) × (send.cell.y ≡ c.y)) where
  abbrev Other : Cell → Cell → Type 0
  Other c d = DifferBy (λ (c : Cell). c.x) (λ (c : Cell). c.y) c d

  differs : (c d : Cell) (send more : TileSend) → g c ≡ Some send → Other c d → g d ≡ Some more → Differ send more
  differs c d send more e apart e' same same' = apart (sym (own c send e).0 ∙ same ∙ (own d more e').0) (sym (own c send e).1 ∙ same' ∙ (own d more e').1)

  apart-cons : (c : Cell) (cells : List Cell) (o : Option TileSend) → g c ≡ o → AllByRecursion (Other c) cells → Apart (filter_map g cells) → Apart (cons_option o (filter_map g cells))
  apart-cons c cells None e all rest = rest
  apart-cons c cells (Some send) e all rest = (all-kept g (Other c) (Differ send) (λ d more apart e'. differs c d send more e apart e') cells all, rest)

  pub apart-kept : (cells : List Cell) → CellsApart cells → Apart (filter_map g cells)
  apart-kept [] apart = tt
  apart-kept (c ∷ cells) apart = apart-cons c cells (g c) refl apart.0 (apart-kept cells apart.1)

-- ---- the cells that a rectangle meets

-- numbers in a row
abbrev Between : ℕ → ℕ → ℕ → Type 0
Between from to k = (from ≤ k) × (k < to)

range-between : (from count to : ℕ) → from + count ≤ to → AllByRecursion (Between from to) (range_with_len from count)
range-between from zero to fits = tt
range-between from (suc count) to fits =
    ((omega arith, omega arith), all-more (Between (from + 1) to) (Between from to) (λ k h. (omega (arith, h.0), h.1)) (range_with_len (from + 1) count) (range-between (from + 1) count to (omega arith)))

-- the cells of a row
abbrev pub row-cells : List ℕ → ℕ → List Cell
row-cells columns y = map (λ x. cell x y) columns

row-apart : (y from count : ℕ) → CellsApart (row-cells (range_with_len from count) y)
row-apart y from zero = tt
row-apart y from (suc count) =
    (others (range_with_len (from + 1) count) (range-between (from + 1) count (from + 1 + count) (omega arith)), row-apart y (from + 1) count)
  where
    others : (xs : List ℕ) → AllByRecursion (Between (from + 1) (from + 1 + count)) xs → AllByRecursion (DifferBy (λ (c : Cell). c.x) (λ (c : Cell). c.y) (cell from y)) (row-cells xs y)
    others [] all = tt
    others (x ∷ xs) all = (λ same same'. omega (arith, same, all.0.0), others xs all.1)

-- each of a row has what each of its columns has
row-all : (P : Cell → Type 0) (Q : ℕ → Type 0) (y : ℕ) → ((x : ℕ) → Q x → P (cell x y)) → (xs : List ℕ) → AllByRecursion Q xs → AllByRecursion P (row-cells xs y)
row-all P Q y each [] all = tt
row-all P Q y each (x ∷ xs) all = (each x all.0, row-all P Q y each xs all.1)

rows-all : (P : Cell → Type 0) (Q R : ℕ → Type 0) → ((x y : ℕ) → Q x → R y → P (cell x y)) → (xs ys : List ℕ) → AllByRecursion Q xs → AllByRecursion R ys → AllByRecursion P (flat_map (row-cells xs) ys)
rows-all P Q R each xs [] all more = tt
rows-all P Q R each xs (y ∷ ys) all more = all-append P (row-cells xs y) (flat_map (row-cells xs) ys) (row-all P Q y (λ x q. each x y q more.0) xs all) (rows-all P Q R each xs ys all more.1)

-- cells of a row, and cells of rows below
apart-append : (y : ℕ) (cells more : List Cell) → CellsApart cells → CellsApart more → AllByRecursion (λ (c : Cell). c.y ≡ y) cells → AllByRecursion (λ (c : Cell). y + 1 ≤ c.y) more → CellsApart (cells ++ more)
apart-append y [] more apart apart' here below = apart'
apart-append y (c ∷ cells) more apart apart' here below = (
  all-append (DifferBy (λ (c : Cell). c.x) (λ (c : Cell). c.y) c) cells more apart.0
      (all-more (λ (d : Cell). y + 1 ≤ d.y) (DifferBy (λ (c : Cell). c.x) (λ (c : Cell). c.y) c) (λ d less same same'. omega (arith, less, same', here.0)) more below),
  apart-append y cells more apart.1 apart' here.1 below,
)

rows-apart : (from count top rows : ℕ) → CellsApart (flat_map (row-cells (range_with_len from count)) (range_with_len top rows))
rows-apart from count top zero = tt
rows-apart from count top (suc rows) =
    let columns : List ℕ = range_with_len from count in
    let below : List ℕ = range_with_len (top + 1) rows in
    apart-append top (row-cells columns top) (flat_map (row-cells columns) below) (row-apart top from count) (rows-apart from count (top + 1) rows)
    (row-all (λ (c : Cell). c.y ≡ top) (λ _. Unit {0}) top (λ x _. refl) columns (all-any (λ _. Unit {0}) (λ _. tt) columns))
    (rows-all (λ (c : Cell). top + 1 ≤ c.y) (λ _. Unit {0}) (λ y. top + 1 ≤ y) (λ x y _ h. h) columns below (all-any (λ _. Unit {0}) (λ _. tt) columns)
    (all-more (Between (top + 1) (top + 1 + rows)) (λ y. top + 1 ≤ y) (λ y h. h.0) below (range-between (top + 1) rows (top + 1 + rows) (omega arith))))

pub cells-apart : (rect : Rect) → CellsApart (cells_met rect)
cells-apart rect =
    rows-apart (rect.left / CELL_SIDE) (cells_along rect.right - rect.left / CELL_SIDE) (rect.top / CELL_SIDE) (cells_along rect.bottom - rect.top / CELL_SIDE)

-- a rectangle meets a cell
pub record Met (rect : Rect) (c : Cell) : Type 0 where
  pub left : rect.left < CELL_SIDE * c.x + CELL_SIDE
  pub right : CELL_SIDE * c.x < rect.right
  pub top : rect.top < CELL_SIDE * c.y + CELL_SIDE
  pub bottom : CELL_SIDE * c.y < rect.bottom

-- a cell between two coordinates
abbrev Crossed : ℕ → ℕ → ℕ → Type 0
Crossed from to k = (from < CELL_SIDE * k + CELL_SIDE) × (CELL_SIDE * k < to)

crossed : (from to : ℕ) → from < to → AllByRecursion (Crossed from to) (cells_between from to)
crossed from to some =
    let first : ℕ = from / CELL_SIDE in
    let last : ℕ = cells_along to in
    all-more (Between first last) (Crossed from to) (λ k h. (omega (arith, h.0), omega (arith, h.1))) (cells_between from to) (range-between first (last - first) last (omega arith))

pub each-met : (rect : Rect) → has_pixels rect ≡ true → AllByRecursion (Met rect) (cells_met rect)
each-met rect some =
    rows-all (Met rect) (Crossed rect.left rect.right) (Crossed rect.top rect.bottom) (λ x y h k. record { left = h.0; right = h.1; top = k.0; bottom = k.1 })
    (cells_between rect.left rect.right) (cells_between rect.top rect.bottom) (crossed rect.left rect.right (grind (arith, nat_tests))) (crossed rect.top rect.bottom (grind (arith, nat_tests)))

-- what holds of all numbers in a row holds of each
range-at : (Q : ℕ → Type 0) (from count k : ℕ) → AllByRecursion Q (range_with_len from count) → from ≤ k → k < from + count → Q k
range-at Q from zero k all above below = absurd (omega (arith, above, below))
range-at Q from (suc count) k all above below = elim (cases_lt from k) [
  | inl less ↦ range-at Q (from + 1) count k all.1 (omega (arith, less)) (omega (arith, below))
  | inr same ↦ subst Q {x = from} {y = k} (omega (arith, same, above)) all.0
]

all-first : (P : Cell → Type 0) (cells more : List Cell) → AllByRecursion P (cells ++ more) → AllByRecursion P cells × AllByRecursion P more
all-first P [] more all = (tt, all)
all-first P (c ∷ cells) more all = let rest : AllByRecursion P cells × AllByRecursion P more = all-first P cells more all.1 in ((all.0, rest.0), rest.1)

rows-at : (P : Cell → Type 0) (xs ys : List ℕ) → AllByRecursion P (flat_map (row-cells xs) ys) → AllByRecursion (λ y. AllByRecursion (λ x. P (cell x y)) xs) ys
rows-at P xs [] all = tt
rows-at P xs (y ∷ ys) all =
    let both : AllByRecursion P (row-cells xs y) × AllByRecursion P (flat_map (row-cells xs) ys) = all-first P (row-cells xs y) (flat_map (row-cells xs) ys) all in
    (all-unmap (λ x. cell x y) (λ x. P (cell x y)) P (λ x p. p) xs both.0, rows-at P xs ys both.1)

-- what holds of all cells that a rectangle meets holds of each
pub at-cell : (P : Cell → Type 0) (rect : Rect) (c : Cell) → AllByRecursion P (cells_met rect) → Met rect c → P c
at-cell P rect c all met =
    let firsts : AllByRecursion (λ y. AllByRecursion (λ x. P (cell x y)) (cells_between rect.left rect.right)) (cells_between rect.top rect.bottom) =
    rows-at P (cells_between rect.left rect.right) (cells_between rect.top rect.bottom) all in
    range-at (λ x. P (cell x c.y)) (rect.left / CELL_SIDE) (cells_along rect.right - rect.left / CELL_SIDE) c.x
    (range-at (λ y. AllByRecursion (λ x. P (cell x y)) (cells_between rect.left rect.right)) (rect.top / CELL_SIDE) (cells_along rect.bottom - rect.top / CELL_SIDE) c.y firsts
    (omega (arith, met.top)) (omega (arith, met.top, met.bottom)))
    (omega (arith, met.left)) (omega (arith, met.left, met.right))
