-- Where a pixel stands in a list of rows.
use Rattle.std.proofs.Common.{◌≡◌, IsTrue, take, drop, length-take, length-drop, get_or-take, get_or-drop, zero-mul, suc, zero, ◌∙◌, ap, sym, true, false, ◌&&◌, nat_le, nat_lt, if◌then◌else◌, ℕ, ◌+◌, ◌-◌, ◌*◌, ◌/◌, ◌%◌, ◌<◌, ◌≤◌, ◌⊎◌, inl, inr, List, length, replicate, get_or, arith}
use Rattle.std.proofs.lemmas.List.{length-replicate, get_or-replicate, get_or_append_left, get_or-append_right, get_or_default}
use Rattle.std.proofs.lemmas.Nat.{div-mul-add, mod-mul-add}
use Rattle.std.proofs.lemmas.Bool.{cases_order, cases_lt}
use borrow.Rule.Slice.PartMut.{put_mid}
use Rattle.std.proofs.Math.Nat.{mul-le-mul_left}
use Rattle.std.proofs.lemmas.Bool.Decides.{nat_tests}
use Rattle.gfx_base.specs.Geometry.{lies_in}
use Rattle.gfx_base.specs.declared.geometry.Rect.{Rect}
use Rattle.gfx_base.specs.declared.pixel.Pixel.{Pixel}
use Rattle.gfx_surface.specs.Picture.{no_pixel}
use Rattle.gfx_surface.specs.Rows.{WritesRows, WritesRun}

-- a later row begins where the row before it has ended
pub next_row : (p q width : ℕ) → p < q → p * width + width ≤ q * width
next_row p q width less =
    let low : p + 1 ≤ q = omega arith in
    let most : width * (p + 1) ≤ width * q = mul-le-mul_left width low in
    omega arith

-- a place is in a run of row y where its row is y and its column is in the run
in_run : (width y left right k q m : ℕ) → k ≡ q * width + m → m < width → left ≤ right → right ≤ width
    → (nat_le (y * width + left) k && nat_lt k (y * width + right)) ≡ (nat_le left m && nat_lt m right && nat_le y q && nat_lt q (y + 1))
in_run width y left right k q m cut column ordered fits = by (cases_order q y)
  where
    by : ((q ≡ y) ⊎ ((q < y) ⊎ (y < q))) → (nat_le (y * width + left) k && nat_lt k (y * width + right)) ≡ (nat_le left m && nat_lt m right && nat_le y q && nat_lt q (y + 1))
    by (inl same) = let here : k ≡ y * width + m = cut ∙ ap (λ r. r * width + m) same in grind (arith, nat_tests)
    by (inr (inl less)) = let over : q * width + width ≤ y * width = next_row q y width less in grind (arith, nat_tests)
    by (inr (inr more)) = let over : y * width + width ≤ q * width = next_row y q width more in grind (arith, nat_tests)

-- a rectangle down to row y and the run of row y are the rectangle down to the next row
one_row_more : (left right top y m q : ℕ) (c e : Pixel) → top ≤ y
    → (if nat_le left m && nat_lt m right && nat_le y q && nat_lt q (y + 1) then c else (if nat_le left m && nat_lt m right && nat_le top q && nat_lt q y then c else e))
    ≡ (if nat_le left m && nat_lt m right && nat_le top q && nat_lt q (y + 1) then c else e)
one_row_more left right top y m q c e low = grind (arith, nat_tests)

-- a rectangle in an area has its sides in order
pub left_in : (width height : ℕ) (rect : Rect) → IsTrue (lies_in width height rect) → rect.left ≤ rect.right
left_in width height rect inside = grind (arith, nat_tests)

-- and its right side in the area
pub right_in : (width height : ℕ) (rect : Rect) → IsTrue (lies_in width height rect) → rect.right ≤ width
right_in width height rect inside = grind (arith, nat_tests)

-- and its bottom side
pub bottom_in : (width height : ℕ) (rect : Rect) → IsTrue (lies_in width height rect) → rect.bottom ≤ height
bottom_in width height rect inside = grind (arith, nat_tests)

-- a list of rows that has a place has columns
pub some_columns : (k width height : ℕ) → k < width * height → 0 < width
some_columns k zero height below = let none : 0 * height ≡ 0 = zero-mul height in omega arith
some_columns k (suc width) height below = omega arith

-- a run whose pixels are told otherwise
pub same_run : (from to : ℕ) (f g : ℕ → Pixel) (old new : List Pixel) → WritesRun from to f old new
    → ((k : ℕ) → from ≤ k → k < to → f k ≡ g k) → WritesRun from to g old new
same_run from to f g old new run same k d below = run k d below ∙ by (cases_lt k from) (cases_lt k to)
  where
    by : ((k < from) ⊎ (from ≤ k)) → ((k < to) ⊎ (to ≤ k))
        → (if nat_le from k && nat_lt k to then f k else get_or old k d) ≡ (if nat_le from k && nat_lt k to then g k else get_or old k d)
    by (inl before) t =
        let out : (nat_le from k && nat_lt k to) ≡ false = grind (arith, nat_tests) in
        ap (λ b. if b then f k else get_or old k d) out ∙ sym (ap (λ b. if b then g k else get_or old k d) out)
    by (inr from_on) (inl up_to) = ap (λ p. if nat_le from k && nat_lt k to then p else get_or old k d) (same k from_on up_to)
    by (inr from_on) (inr after) =
        let out : (nat_le from k && nat_lt k to) ≡ false = grind (arith, nat_tests) in
        ap (λ b. if b then f k else get_or old k d) out ∙ sym (ap (λ b. if b then g k else get_or old k d) out)

-- a place of a run of row y is in that row, and its column is told by where the row begins
pub record InRow (width y k : ℕ) : Type 0 where
  pub row : k / width ≡ y
  pub column : k % width ≡ k - y * width

pub in_row : (width y left right k : ℕ) → right ≤ width → y * width + left ≤ k → k < y * width + right → InRow width y k
in_row width y left right k fits from_on up_to =
    let column : k - y * width < width = omega arith in
    let cut : k ≡ y * width + (k - y * width) = omega arith in
    record {
      row = ap (λ n. n / width) cut ∙ div-mul-add y width (k - y * width) column;
      column = ap (λ n. n % width) cut ∙ mod-mul-add y width (k - y * width) column;
    }

-- the run of row y, seen by column and row
run_seen : (width y start end : ℕ) (rect : Rect) (f : ℕ → ℕ → Pixel) (height : ℕ) (mid new : List Pixel) (k : ℕ) (d : Pixel)
    → rect.left ≤ rect.right → rect.right ≤ width → length mid ≡ width * height → k < length mid
    → start ≡ y * width + rect.left → end ≡ y * width + rect.right → WritesRun start end (λ k. f (k % width) (k / width)) mid new
    → get_or new k d ≡ (if nat_le rect.left (k % width) && nat_lt (k % width) rect.right && nat_le y (k / width) && nat_lt (k / width) (y + 1) then f (k % width) (k / width) else get_or mid k d)
run_seen width y start end rect f height mid new k d ordered fits full below starts ends run =
    let some : 0 < width = some_columns k width height (omega arith) in
    let cut : k ≡ k / width * width + k % width = omega arith in
    let column : k % width < width = omega arith in
    run k d below
    ∙ (λ i. if nat_le (starts i) k && nat_lt k (ends i) then f (k % width) (k / width) else get_or mid k d)
    ∙ ap (λ b. if b then f (k % width) (k / width) else get_or mid k d) (in_run width y rect.left rect.right k (k / width) (k % width) cut column ordered fits)

-- one more row is done, from the top on
pub rows_more : (width y start end : ℕ) (rect : Rect) (f : ℕ → ℕ → Pixel) (height : ℕ) (old mid new : List Pixel)
    → rect.left ≤ rect.right → rect.right ≤ width → length old ≡ width * height → length mid ≡ length old → rect.top ≤ y
    → WritesRows width (record rect { bottom = y }) f old mid
    → start ≡ y * width + rect.left → end ≡ y * width + rect.right → WritesRun start end (λ k. f (k % width) (k / width)) mid new
    → WritesRows width (record rect { bottom = y + 1 }) f old new
rows_more width y start end rect f height old mid new ordered fits full same top above starts ends run k d below =
    run_seen width y start end rect f height mid new k d ordered fits (omega arith) (omega arith) starts ends run
    ∙ ap (λ e. if nat_le rect.left (k % width) && nat_lt (k % width) rect.right && nat_le y (k / width) && nat_lt (k / width) (y + 1) then f (k % width) (k / width) else e) (above k d below)
    ∙ one_row_more rect.left rect.right rect.top y (k % width) (k / width) (f (k % width) (k / width)) (get_or old k d) top

-- what a list holds once a run of it is overwritten
pub run_put : (from to : ℕ) (old run : List Pixel) → from ≤ to → to ≤ length old → length run ≡ to - from
    → WritesRun from to (λ k. get_or run (k - from) no_pixel) old (put_mid from (to - from) old run)
run_put from to old run ordered within size k d below =
    let front : length (take from old) ≡ from = simp length-take (omega arith) in
    by (cases_lt k from) (cases_lt k to) front
  where
    by : ((k < from) ⊎ (from ≤ k)) → ((k < to) ⊎ (to ≤ k)) → length (take from old) ≡ from
        → get_or (put_mid from (to - from) old run) k d ≡ (if nat_le from k && nat_lt k to then get_or run (k - from) no_pixel else get_or old k d)
    by (inl before) t front =
        let out : (nat_le from k && nat_lt k to) ≡ false = grind (arith, nat_tests) in
        get_or_append_left (take from old) _ d k (omega arith) ∙ get_or-take from old k d before
        ∙ sym (ap (λ b. if b then get_or run (k - from) no_pixel else get_or old k d) out)
    by (inr from_on) (inl up_to) front =
        let hit : (nat_le from k && nat_lt k to) ≡ true = grind (arith, nat_tests) in
        get_or-append_right (take from old) _ from k d front from_on
        ∙ get_or_append_left run _ d (k - from) (omega arith)
        ∙ get_or_default run (k - from) d no_pixel (omega arith)
        ∙ sym (ap (λ b. if b then get_or run (k - from) no_pixel else get_or old k d) hit)
    by (inr from_on) (inr after) front =
        let out : (nat_le from k && nat_lt k to) ≡ false = grind (arith, nat_tests) in
        let same : from + ((to - from) + ((k - from) - (to - from))) ≡ k = omega arith in
        get_or-append_right (take from old) _ from k d front from_on
        ∙ get_or-append_right run _ (to - from) (k - from) d size (omega arith)
        ∙ simp get_or-drop (ap (λ n. get_or old n d) same)
        ∙ sym (ap (λ b. if b then get_or run (k - from) no_pixel else get_or old k d) out)

-- what a list holds once a run of it is overwritten with one pixel
pub run_filled : (from to : ℕ) (colour : Pixel) (old run : List Pixel) → from ≤ to → to ≤ length old
    → run ≡ replicate (length (take (to - from) (drop from old))) colour
    → WritesRun from to (λ _. colour) old (put_mid from (to - from) old run)
run_filled from to colour old run ordered within all =
    let long : run ≡ replicate (to - from) colour = all ∙ ap (λ n. replicate n colour) (simp (length-take, length-drop) (omega arith)) in
    let size : length run ≡ to - from = ap length long ∙ length-replicate (to - from) colour in
    same_run from to _ (λ _. colour) old (put_mid from (to - from) old run) (run_put from to old run ordered within size)
    (λ k from_on up_to. ap (λ r. get_or r (k - from) no_pixel) long ∙ get_or-replicate (to - from) (k - from) colour no_pixel (omega arith))
