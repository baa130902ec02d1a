-- What is written cell by cell.
use Rattle.std.proofs.Common.{◌≡◌, refl, sym, ap, ◌∙◌, subst, Bool, true, false, ◌&&◌, ◌||◌, nat_eq, nat_le, nat_lt, if◌then◌else◌, ◌⊎◌, inl, inr, ℕ, ◌+◌, ◌-◌, ◌*◌, ◌/◌, ◌%◌, ◌<◌, ◌≤◌, min, List, map, length, take, drop, get_or, get_or-take, get_or-drop, length-take, length-drop, arith}
use Rattle.std.proofs.lemmas.List.{get_or_default, get_or-map}
use Rattle.std.proofs.lemmas.Bool.{cases_lt, cases_eq}
use Rattle.std.proofs.lemmas.Bool.Decides.{nat_tests}
use Rattle.std.proofs.lemmas.Nat.{same_from_place, div-mul-add, mod-mul-add}
use borrow.Rule.Slice.PartMut.{put_mid}
use Rattle.gfx_base.specs.declared.format.Format.{Format}
use Rattle.gfx_base.specs.declared.geometry.Cell.{Cell}
use Rattle.gfx_base.specs.declared.geometry.Rect.{Rect}
use Rattle.gfx_base.specs.declared.pixel.Pixel.{Pixel}
use Rattle.gfx_base.specs.Geometry.{holds, width_of, height_of, sized}
use Rattle.gfx_surface.specs.Picture.{no_pixel, shade, in_rect}
use Rattle.gfx_base.specs.Cells.{cells_along}
use Rattle.gfx_surface.specs.Cells.{cell_start, places, place}
use Rattle.gfx_surface.specs.Rows.{WritesRows, WritesRun}
use Rattle.gfx_surface.specs.Where.{WritesWhere, IsWholeCell, in_cell, in_cells, in_row_of_cells, in_rows_of_cells}
use Rattle.gfx_surface.proofs.CellPlaces.{place_below, cell_within}
use Rattle.gfx_surface.proofs.Places.{run_put}
use Rattle.gfx_surface.proofs.Wheres.{where_same, where_within}

no : (a b : ℕ) → (a < b) ⊎ (b < a) → nat_eq a b ≡ false
no a b (inl less) = grind (arith, nat_tests)
no a b (inr more) = grind (arith, nat_tests)

and_false : (b c : Bool) → (b && false && c) ≡ false
and_false true c = refl
and_false false c = refl

yes : (a b : ℕ) → a ≡ b → nat_eq a b ≡ true
yes a b same = grind (arith, nat_tests)

-- the places of a cell are written
pub cell_run : (width height start : ℕ) (cell : Cell) (rect : Rect) (g : ℕ → Pixel) (f : ℕ → ℕ → Pixel) (cells new : List Pixel)
    → start ≡ cell_start width cell.x cell.y → length cells ≡ places width height → cell.x < cells_along width → cell.y < cells_along height
    → WritesRun start (start + 4096) g cells new
    → ((x y : ℕ) → x < width → y < height → x / 64 ≡ cell.x → y / 64 ≡ cell.y → g (start + (y % 64 * 64 + x % 64)) ≡ (if holds rect x y then f x y else get_or cells (start + (y % 64 * 64 + x % 64)) no_pixel))
    → WritesWhere width height (in_cell cell rect) f cells new
unfolding place
cell_run width height start cell rect g f cells new begins full on on' run says x y d column row =
    run k d below ∙ by (cases_eq (x / 64) cell.x) (cases_eq (y / 64) cell.y)
  where
    k : ℕ
    k = place width x y

    m : ℕ
    m = y % 64 * 64 + x % 64

    within : start + 4096 ≤ length cells
    within = subst (λ n. start + 4096 ≤ n) (sym full) (subst (λ n. n + 4096 ≤ places width height) (sym begins) (cell_within width height cell.x cell.y on on'))

    below : k < length cells
    below = subst (λ n. k < n) (sym full) (place_below width height x y column row)

    small : m < 4096
    small = omega arith

    apart : (k < start) ⊎ (start + 4096 ≤ k) → in_cell cell rect x y ≡ false
        → (if nat_le start k && nat_lt k (start + 4096) then g k else get_or cells k d)
        ≡ (if in_cell cell rect x y then f x y else get_or cells k d)
    apart (inl before) out =
        let miss : (nat_le start k && nat_lt k (start + 4096)) ≡ false = grind (arith, nat_tests) in
        ap (λ b. if b then g k else get_or cells k d) miss ∙ sym (ap (λ b. if b then f x y else get_or cells k d) out)
    apart (inr after) out =
        let miss : (nat_le start k && nat_lt k (start + 4096)) ≡ false = grind (arith, nat_tests) in
        ap (λ b. if b then g k else get_or cells k d) miss ∙ sym (ap (λ b. if b then f x y else get_or cells k d) out)

    cell_of : ℕ
    cell_of = y / 64 * cells_along width + x / 64

    own : ℕ
    own = cell.y * cells_along width + cell.x

    other : ((cell_of ≡ own) → ⊥) → (k < start) ⊎ (start + 4096 ≤ k)
    other not = side (cases_lt cell_of own) (cases_lt own cell_of)
      where
        side : ((cell_of < own) ⊎ (own ≤ cell_of)) → ((own < cell_of) ⊎ (cell_of ≤ own)) → (k < start) ⊎ (start + 4096 ≤ k)
        side (inl less) _ = inl (omega (arith, begins))
        side _ (inl more) = inr (omega (arith, begins))
        side (inr a) (inr b) = absurd (not (omega arith))

    differs : (((x / 64) ≡ cell.x) → ⊥) ⊎ (((y / 64) ≡ cell.y) → ⊥) → (cell_of ≡ own) → ⊥
    differs (inl not) same = not (same_from_place (y / 64) (x / 64) cell.y cell.x (cells_along width) (omega arith) on same).1
    differs (inr not) same = not (same_from_place (y / 64) (x / 64) cell.y cell.x (cells_along width) (omega arith) on same).0

    out_x : (((x / 64) ≡ cell.x) → ⊥) → in_cell cell rect x y ≡ false
    out_x not = test (cases_lt (x / 64) cell.x) (cases_lt cell.x (x / 64))
      where
        test : (((x / 64) < cell.x) ⊎ (cell.x ≤ (x / 64))) → ((cell.x < (x / 64)) ⊎ ((x / 64) ≤ cell.x)) → in_cell cell rect x y ≡ false
        test (inl less) _ = ap (λ b. b && nat_eq (y / 64) cell.y && holds rect x y) (no (x / 64) cell.x (inl less))
        test _ (inl more) = ap (λ b. b && nat_eq (y / 64) cell.y && holds rect x y) (no (x / 64) cell.x (inr more))
        test (inr a) (inr b) = absurd (not (omega arith))

    out_y : (((y / 64) ≡ cell.y) → ⊥) → in_cell cell rect x y ≡ false
    out_y not = test (cases_lt (y / 64) cell.y) (cases_lt cell.y (y / 64))
      where
        test : (((y / 64) < cell.y) ⊎ (cell.y ≤ (y / 64))) → ((cell.y < (y / 64)) ⊎ ((y / 64) ≤ cell.y)) → in_cell cell rect x y ≡ false
        test (inl less) _ = ap (λ b. nat_eq (x / 64) cell.x && b && holds rect x y) (no (y / 64) cell.y (inl less)) ∙ and_false (nat_eq (x / 64) cell.x) (holds rect x y)
        test _ (inl more) = ap (λ b. nat_eq (x / 64) cell.x && b && holds rect x y) (no (y / 64) cell.y (inr more)) ∙ and_false (nat_eq (x / 64) cell.x) (holds rect x y)
        test (inr a) (inr b) = absurd (not (omega arith))

    inside : x / 64 ≡ cell.x → y / 64 ≡ cell.y
        → (if nat_le start k && nat_lt k (start + 4096) then g k else get_or cells k d)
        ≡ (if in_cell cell rect x y then f x y else get_or cells k d)
    inside is_x is_y =
        let at : k ≡ start + m = (λ i. cell_start width (is_x i) (is_y i) + m) ∙ ap (λ n. n + m) (sym begins) in
        let hit : (nat_le start k && nat_lt k (start + 4096)) ≡ true = grind (arith, nat_tests) in
        ap (λ b. if b then g k else get_or cells k d) hit
        ∙ ap g at ∙ says x y column row is_x is_y
        ∙ ap (λ p. if holds rect x y then f x y else p) (get_or_default cells (start + m) no_pixel d (omega (arith, within, small)) ∙ ap (λ n. get_or cells n d) (sym at))
        ∙ sym (λ i. if (yes (x / 64) cell.x is_x i && yes (y / 64) cell.y is_y i && holds rect x y) then f x y else get_or cells k d)

    by : ((x / 64 ≡ cell.x) ⊎ (((x / 64) ≡ cell.x) → ⊥)) → ((y / 64 ≡ cell.y) ⊎ (((y / 64) ≡ cell.y) → ⊥))
        → (if nat_le start k && nat_lt k (start + 4096) then g k else get_or cells k d)
        ≡ (if in_cell cell rect x y then f x y else get_or cells k d)
    by (inl is_x) (inl is_y) = inside is_x is_y
    by (inr not) _ = apart (other (differs (inl not))) (out_x not)
    by _ (inr not) = apart (other (differs (inr not))) (out_y not)

-- a side of a piece, seen in its cell and on the surface
le_side : (side c a : ℕ) → a < 64 → nat_le (min 64 (side - 64 * c)) a ≡ nat_le side (64 * c + a)
le_side side c a low = grind (arith, nat_tests)

lt_side : (side c a : ℕ) → a < 64 → nat_lt a (min 64 (side - 64 * c)) ≡ nat_lt (64 * c + a) side
lt_side side c a low = grind (arith, nat_tests)

-- the sides of a piece of a cell
pub record IsPiece (cell : Cell) (rect piece : Rect) : Type 0 where
  pub left : piece.left ≡ min 64 (rect.left - 64 * cell.x)
  pub top : piece.top ≡ min 64 (rect.top - 64 * cell.y)
  pub right : piece.right ≡ min 64 (rect.right - 64 * cell.x)
  pub bottom : piece.bottom ≡ min 64 (rect.bottom - 64 * cell.y)

-- the test of a place of the cell
piece_holds : (cell : Cell) (rect piece : Rect) (x y : ℕ) → IsPiece cell rect piece → x / 64 ≡ cell.x → y / 64 ≡ cell.y
    → holds piece (x % 64) (y % 64) ≡ holds rect x y
piece_holds cell rect piece x y sides column row =
    let a : x % 64 < 64 = omega arith in
    let b : y % 64 < 64 = omega arith in
    let there : 64 * cell.x + x % 64 ≡ x = omega (arith, column) in
    let there' : 64 * cell.y + y % 64 ≡ y = omega (arith, row) in
    (λ i. nat_le (sides.left i) (x % 64) && nat_lt (x % 64) (sides.right i) && nat_le (sides.top i) (y % 64) && nat_lt (y % 64) (sides.bottom i))
    ∙ (λ i. le_side rect.left cell.x (x % 64) a i && lt_side rect.right cell.x (x % 64) a i && le_side rect.top cell.y (y % 64) b i && lt_side rect.bottom cell.y (y % 64) b i)
    ∙ (λ i. nat_le rect.left (there i) && nat_lt (there i) rect.right && nat_le rect.top (there' i) && nat_lt (there' i) rect.bottom)

-- a cell whose piece is of one colour
pub cell_written : (width height start : ℕ) (cell : Cell) (rect piece : Rect) (colour : Pixel) (cells run : List Pixel)
    → start ≡ cell_start width cell.x cell.y → length cells ≡ places width height → cell.x < cells_along width → cell.y < cells_along height
    → length run ≡ 4096 → IsPiece cell rect piece
    → WritesRows 64 piece (λ _ _. colour) (take (start + 4096 - start) (drop start cells)) run
    → WritesWhere width height (in_cell cell rect) (λ _ _. colour) cells (put_mid start (start + 4096 - start) cells run)
cell_written width height start cell rect piece colour cells run begins full on on' long sides rows =
    cell_run width height start cell rect (λ k. get_or run (k - start) no_pixel) (λ _ _. colour) cells (put_mid start (start + 4096 - start) cells run) begins full on on'
    (run_put start (start + 4096) cells run (omega arith) within (long ∙ span)) (λ x y _ _ is_x is_y. says x y is_x is_y)
  where
    span : 4096 ≡ start + 4096 - start
    span = omega arith

    within : start + 4096 ≤ length cells
    within = subst (λ n. start + 4096 ≤ n) (sym full) (subst (λ n. n + 4096 ≤ places width height) (sym begins) (cell_within width height cell.x cell.y on on'))

    part : length (take (start + 4096 - start) (drop start cells)) ≡ 4096
    part = simp (length-take, length-drop) (omega (arith, within))

    says : (x y : ℕ) → x / 64 ≡ cell.x → y / 64 ≡ cell.y
        → get_or run (start + (y % 64 * 64 + x % 64) - start) no_pixel ≡ (if holds rect x y then colour else get_or cells (start + (y % 64 * 64 + x % 64)) no_pixel)
    says x y is_x is_y =
        let m : ℕ = y % 64 * 64 + x % 64 in
        let small : m < 4096 = omega arith in
        let off : start + m - start ≡ m = omega arith in
        let low : x % 64 < 64 = omega arith in
        ap (λ n. get_or run n no_pixel) off
        ∙ rows m no_pixel (omega (arith, part, small))
        ∙ (λ i. if holds piece (mod-mul-add (y % 64) 64 (x % 64) low i) (div-mul-add (y % 64) 64 (x % 64) low i) then colour else get_or (take (start + 4096 - start) (drop start cells)) m no_pixel)
        ∙ (λ i. if piece_holds cell rect piece x y sides is_x is_y i then colour else (get_or-take (start + 4096 - start) (drop start cells) m no_pixel (omega (arith, small, span)) ∙ get_or-drop start cells m no_pixel) i)

-- a whole cell that is written from a list of its pixels
pub whole_written : (width height start : ℕ) (cell : Cell) (rect : Rect) (format : Format) (from cells new : List Pixel)
    → IsWholeCell rect → cell.x ≡ rect.left / 64 → cell.y ≡ rect.top / 64
    → start ≡ cell_start width cell.x cell.y → length cells ≡ places width height → rect.right ≤ width → rect.bottom ≤ height
    → length from ≡ width_of rect * height_of rect
    → WritesRun start (start + length from) (λ k. get_or (map (shade format) from) (k - start) no_pixel) cells new
    → WritesWhere width height (holds rect) (λ x y. shade format (in_rect rect from x y)) cells new
whole_written width height start cell rect format from cells new whole is_x is_y begins full wide high sized run =
    where_same width height (in_cell cell rect) (holds rect) (λ x y. shade format (in_rect rect from x y)) cells new
    (cell_run width height start cell rect (λ k. get_or (map (shade format) from) (k - start) no_pixel) (λ x y. shade format (in_rect rect from x y)) cells new begins full
    (omega (arith, is_x, whole.column, whole.wide)) (omega (arith, is_y, whole.row, whole.high))
    (subst (λ n. WritesRun start (start + n) (λ k. get_or (map (shade format) from) (k - start) no_pixel) cells new) long run)
    (λ x y _ _ column row. says x y column row))
    alone
  where
    long : length from ≡ 4096
    long = sized ∙ (λ i. whole.wide i * whole.high i)

    left_is : rect.left ≡ 64 * cell.x
    left_is = omega (arith, is_x, whole.column)

    top_is : rect.top ≡ 64 * cell.y
    top_is = omega (arith, is_y, whole.row)

    right_is : rect.right ≡ 64 * cell.x + 64
    right_is = omega (arith, left_is, whole.wide)

    bottom_is : rect.bottom ≡ 64 * cell.y + 64
    bottom_is = omega (arith, top_is, whole.high)

    held : (x y : ℕ) → x / 64 ≡ cell.x → y / 64 ≡ cell.y → holds rect x y ≡ true
    held x y column row = grind (arith, nat_tests, left_is, top_is, right_is, bottom_is, column, row)

    alone : (x y : ℕ) → in_cell cell rect x y ≡ holds rect x y
    alone x y = grind (arith, nat_tests, left_is, top_is, right_is, bottom_is)

    says : (x y : ℕ) → x / 64 ≡ cell.x → y / 64 ≡ cell.y
        → get_or (map (shade format) from) (start + (y % 64 * 64 + x % 64) - start) no_pixel
        ≡ (if holds rect x y then shade format (in_rect rect from x y) else get_or cells (start + (y % 64 * 64 + x % 64)) no_pixel)
    says x y column row =
        let m : ℕ = y % 64 * 64 + x % 64 in
        let small : m < 4096 = omega arith in
        let off : start + m - start ≡ m = omega arith in
        let down : y % 64 ≡ y - rect.top = omega (arith, top_is, row) in
        let across : x % 64 ≡ x - rect.left = omega (arith, left_is, column) in
        ap (λ n. get_or (map (shade format) from) n no_pixel) off
        ∙ get_or-map (shade format) from m no_pixel no_pixel (omega (arith, small, long))
        ∙ (λ i. shade format (get_or from (down i * sym whole.wide i + across i) no_pixel))
        ∙ sym (ap (λ b. if b then shade format (in_rect rect from x y) else get_or cells (start + m) no_pixel) (held x y column row))

-- a cell that is written from a list of its places
pub places_written : (width height start : ℕ) (cell : Cell) (format : Format) (from cells new : List Pixel)
    → start ≡ cell_start width cell.x cell.y → length cells ≡ places width height → cell.x < cells_along width → cell.y < cells_along height → length from ≡ 4096
    → WritesRun start (start + length from) (λ k. get_or (map (shade format) from) (k - start) no_pixel) cells new
    → WritesWhere width height (λ x y. nat_eq (x / 64) cell.x && nat_eq (y / 64) cell.y) (λ x y. shade format (get_or from (y % 64 * 64 + x % 64) no_pixel)) cells new
places_written width height start cell format from cells new begins full on on' long run =
    where_within width height (in_cell cell (sized width height)) (λ x y. nat_eq (x / 64) cell.x && nat_eq (y / 64) cell.y)
    (λ x y. shade format (get_or from (y % 64 * 64 + x % 64) no_pixel)) cells new
    (cell_run width height start cell (sized width height) (λ k. get_or (map (shade format) from) (k - start) no_pixel) (λ x y. shade format (get_or from (y % 64 * 64 + x % 64) no_pixel)) cells new
    begins full on on'
    (subst (λ n. WritesRun start (start + n) (λ k. get_or (map (shade format) from) (k - start) no_pixel) cells new) long run)
    says)
    (λ x y column row. ap (λ b. nat_eq (x / 64) cell.x && nat_eq (y / 64) cell.y && b) (inside x y column row) ∙ and_true (nat_eq (x / 64) cell.x) (nat_eq (y / 64) cell.y))
  where
    inside : (x y : ℕ) → x < width → y < height → holds (sized width height) x y ≡ true
    inside x y column row = grind (arith, nat_tests)

    and_true : (a b : Bool) → (a && b && true) ≡ (a && b)
    and_true true true = refl
    and_true true false = refl
    and_true false b = refl

    says : (x y : ℕ) → x < width → y < height → x / 64 ≡ cell.x → y / 64 ≡ cell.y
        → get_or (map (shade format) from) (start + (y % 64 * 64 + x % 64) - start) no_pixel
        ≡ (if holds (sized width height) x y then shade format (get_or from (y % 64 * 64 + x % 64) no_pixel) else get_or cells (start + (y % 64 * 64 + x % 64)) no_pixel)
    says x y column row is_x is_y =
        let m : ℕ = y % 64 * 64 + x % 64 in
        let small : m < 4096 = omega arith in
        let off : start + m - start ≡ m = omega arith in
        ap (λ n. get_or (map (shade format) from) n no_pixel) off
        ∙ get_or-map (shade format) from m no_pixel no_pixel (omega (arith, small, long))
        ∙ sym (ap (λ b. if b then shade format (get_or from m no_pixel) else get_or cells (start + m) no_pixel) (inside x y column row))

-- one more cell of a row, and none before the rectangle's first, and all up to its last
pub one_cell_more : (column row : ℕ) (rect : Rect) (x y : ℕ) → (in_cell (record { x = column; y = row }) rect x y || in_cells column row rect x y) ≡ in_cells (column + 1) row rect x y
one_cell_more column row rect x y = grind (arith, nat_tests)

pub no_cells : (row : ℕ) (rect : Rect) (x y : ℕ) → in_cells (rect.left / 64) row rect x y ≡ false
no_cells row rect x y = grind (arith, nat_tests)

pub all_cells : (column row : ℕ) (rect : Rect) (x y : ℕ) → rect.right ≤ 64 * column → in_cells column row rect x y ≡ in_row_of_cells row rect x y
all_cells column row rect x y far = grind (arith, nat_tests)

pub one_row_more : (row : ℕ) (rect : Rect) (x y : ℕ) → (in_row_of_cells row rect x y || in_rows_of_cells row rect x y) ≡ in_rows_of_cells (row + 1) rect x y
one_row_more row rect x y = grind (arith, nat_tests)

pub no_rows : (rect : Rect) (x y : ℕ) → in_rows_of_cells (rect.top / 64) rect x y ≡ false
no_rows rect x y = grind (arith, nat_tests)

pub all_rows : (row : ℕ) (rect : Rect) (x y : ℕ) → rect.bottom ≤ 64 * row → in_rows_of_cells row rect x y ≡ holds rect x y
all_rows row rect x y far = grind (arith, nat_tests)
