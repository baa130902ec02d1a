use Rattle.std.proofs.Common.{◌^◌, ℕ, ◌+◌, ◌∙◌, arith, ◌*◌, ◌≤◌, ◌≡◌, ap}
use Rattle.std.proofs.Math.Nat.{mul-le-mul_right}
use Rattle.gfx_dwt.specs.Place.{high_size, low_size}
use Rattle.gfx_dwt.specs.Joining.{joined}
use Rattle.gfx_dwt.specs.Samples.{cell}
use Rattle.gfx_dwt.proofs.Room.{line_few}
use Rattle.gfx_dwt.proofs.Planes.{cells_within, column_within}
use Rattle.gfx_dwt.proofs.Same.{joined_same, joined_within}
use Rattle.gfx_dwt.proofs.Strips.{row_put}
use Rattle.gfx_dwt.proofs.joining.join_rows.Goals as goal

pub loop-r-preserved : goal.loop-r-preserved
loop-r-preserved c =
    let r = c.loop-r.r in
    let t = c.args.transform in
    let level = c.args.level in
    let l = c.low_size-low_size.result in
    let h = c.high_size-high_size.result in
    let low = c.args.low.now in
    let high = c.args.high.now in
    let f : ℕ → ℕ → _ = λ i. joined t level (cell l low i) (cell h high i) in
    let size = low_size t level + high_size t level in
    let same : l + h ≡ size = omega arith in
    let place : r * (l + h) ≡ r * size = ap (λ z. r * z) same in
    let more : (r + 1) * size ≤ c.args.rows * size = mul-le-mul_right size (omega arith) in
    row_put (l + h) r _ c.loop-r.out c.join_line.new.out f (omega arith) (omega arith) c.loop-r.invariant
    (λ k p. c.join_line.ensures k (omega arith) ∙ joined_same t level _ _ _ _ (λ n q. c.row-low.ensures.each n (omega arith)) (λ n q. c.row-high.ensures.each n (omega arith)) k (omega arith))

pub returns-clause-within : goal.returns-clause-within
returns-clause-within c =
    let t = c.args.transform in
    let level = c.args.level in
    let l = c.low_size-low_size.result in
    let h = c.high_size-high_size.result in
    let low_is = c.low_size-low_size.ensures in
    let high_is = c.high_size-high_size.ensures in
    cells_within (l + h) c.args.rows (2 ^ 28) c.loop-r.out (rw (low_is, high_is) (c.loop-r.auto.out ∙ c.requires.out_len))
    (λ r j p q. rw (c.loop-r.invariant r j (omega arith) q)
    (joined_within t level (2 ^ 26) (2 ^ 26) _ _
    (λ n b. column_within l c.args.rows (2 ^ 26) c.args.low.now (rw low_is c.requires.low_len) c.requires.low n (omega arith) r p)
    (λ n b. column_within h c.args.rows (2 ^ 26) c.args.high.now (rw high_is c.requires.high_len) c.requires.high n (omega arith) r p) j (omega arith)))

pub overflow_add-size : goal.overflow_add-size
overflow_add-size c =
    let few = line_few c.args.transform c.args.level in
    omega arith

pub overflow_mul-start : goal.overflow_mul-start
overflow_mul-start c =
    let r = c.loop-r.r in
    let t = c.args.transform in
    let l = c.args.level in
    let size = low_size t l + high_size t l in
    let few : size ≤ 64 = line_few t l in
    let same : c.low_size-low_size.result + c.high_size-high_size.result ≡ size = omega arith in
    let place : r * (c.low_size-low_size.result + c.high_size-high_size.result) ≡ r * size = ap (λ z. r * z) same in
    let more : (r + 1) * size ≤ c.args.rows * size = mul-le-mul_right size (omega arith) in
    let small : c.args.rows * size ≤ 64 * size = mul-le-mul_right size (omega arith) in
    omega arith

pub overflow_add-start : goal.overflow_add-start
overflow_add-start c =
    let r = c.loop-r.r in
    let t = c.args.transform in
    let l = c.args.level in
    let size = low_size t l + high_size t l in
    let few : size ≤ 64 = line_few t l in
    let same : c.low_size-low_size.result + c.high_size-high_size.result ≡ size = omega arith in
    let place : r * (c.low_size-low_size.result + c.high_size-high_size.result) ≡ r * size = ap (λ z. r * z) same in
    let more : (r + 1) * size ≤ c.args.rows * size = mul-le-mul_right size (omega arith) in
    let small : c.args.rows * size ≤ 64 * size = mul-le-mul_right size (omega arith) in
    omega arith

pub offset_bounds-out-start : goal.offset_bounds-out-start
offset_bounds-out-start c =
    let r = c.loop-r.r in
    let t = c.args.transform in
    let l = c.args.level in
    let size = low_size t l + high_size t l in
    let few : size ≤ 64 = line_few t l in
    let same : c.low_size-low_size.result + c.high_size-high_size.result ≡ size = omega arith in
    let place : r * (c.low_size-low_size.result + c.high_size-high_size.result) ≡ r * size = ap (λ z. r * z) same in
    let more : (r + 1) * size ≤ c.args.rows * size = mul-le-mul_right size (omega arith) in
    let small : c.args.rows * size ≤ 64 * size = mul-le-mul_right size (omega arith) in
    omega arith

pub slice_bounds-join_line-count : goal.slice_bounds-join_line-count
slice_bounds-join_line-count c = omega arith

pub slice_bounds-join_line-start : goal.slice_bounds-join_line-start
slice_bounds-join_line-start c = omega arith

pub slice_bounds-join_line-end : goal.slice_bounds-join_line-end
slice_bounds-join_line-end c =
    let r = c.loop-r.r in
    let t = c.args.transform in
    let l = c.args.level in
    let size = low_size t l + high_size t l in
    let few : size ≤ 64 = line_few t l in
    let same : c.low_size-low_size.result + c.high_size-high_size.result ≡ size = omega arith in
    let place : r * (c.low_size-low_size.result + c.high_size-high_size.result) ≡ r * size = ap (λ z. r * z) same in
    let more : (r + 1) * size ≤ c.args.rows * size = mul-le-mul_right size (omega arith) in
    let small : c.args.rows * size ≤ 64 * size = mul-le-mul_right size (omega arith) in
    omega arith
