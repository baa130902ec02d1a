use Rattle.std.proofs.Common.{◌≡◌, ℕ, ◌+◌, ◌-◌, ◌*◌, ◌/◌, ◌<◌, ◌≤◌, length, take, ap, ◌∙◌, sym, refl, arith, ℤ, pos}
use Rattle.std.proofs.lemmas.List.{get_or_append_left, length-take-le}
use Rattle.std.proofs.Math.Nat.{mul-le-mul_right}
use Rattle.gfx_dwt.specs.Joining.{edged, even, joined}
use Rattle.gfx_dwt.specs.Lifting.{even_of}
use Rattle.gfx_dwt.specs.Ranges.{at}
use Rattle.gfx_dwt.specs.Samples.{column}
use Rattle.gfx_dwt.proofs.Room.{line_few}
use Rattle.gfx_dwt.proofs.Edges.{is_even, high_some, high_le_low, joined_even, joined_odd, edged_inside}
use Rattle.gfx_dwt.proofs.Small.{small_column_even}
use Rattle.gfx_dwt.proofs.Strips.{rows_put, row_put_last, strip_at}
use Rattle.gfx_dwt.proofs.narrow.joining.join_columns_of.Goals as goal

pub loop-place-init : goal.loop-place-init
loop-place-init c = λ i x p q.
    let t = c.args.transform in
    let l = c.args.level in
    let w = c.args.width in
    let low = column w c.args.low.now in
    let high = column w c.args.high.now in
    let le = high_le_low t l in
    let some = high_some t l in
    let none : i ≡ 0 = omega arith in
    let start : 0 * w + x ≡ x = omega arith in
    let square : 1 * w ≤ w * w = mul-le-mul_right w (omega arith) in
    let written : length c.lower.new.out ≡ w = c.lower.auto.out ∙ length-take-le w c.args.out.now (omega (arith, square)) in
    let first : at c.narrow_row-first.result.now x ≡ edged t l (high x) 0 = c.narrow_row-first.ensures.each x q ∙ sym (edged_inside t l (high x) 0 (omega arith)) in
    rw (none, start)
    (get_or_append_left c.lower.new.out _ (pos 0) x (omega arith)
    ∙ is_even t l (low x) (high x) 0 _ _ _ _ (c.lower.ensures x (omega arith)) (c.narrow_row.ensures.each x q) first first
    ∙ sym (joined_even t l (low x) (high x) 0))

pub lower-requires-clause-evens : goal.lower-requires-clause-evens
lower-requires-clause-evens c = λ x h.
    let t = c.args.transform in
    let l = c.args.level in
    let w = c.args.width in
    let low = column w c.args.low.now in
    let high = column w c.args.high.now in
    let le = high_le_low t l in
    let some = high_some t l in
    let square : 1 * w ≤ w * w = mul-le-mul_right w (omega arith) in
    let front : length (take w c.args.out.now) ≡ w = length-take-le w c.args.out.now (omega (arith, square)) in
    let q : x < w = omega (arith, front) in
    let first : at c.narrow_row-first.result.now x ≡ edged t l (high x) 0 = c.narrow_row-first.ensures.each x q ∙ sym (edged_inside t l (high x) 0 (omega arith)) in
    let is : even_of t (at c.narrow_row.result.now x) (at c.narrow_row-first.result.now x) (at c.narrow_row-first.result.now x) ≡ even t l (low x) (high x) 0 =
    is_even t l (low x) (high x) 0 _ _ _ _ refl (c.narrow_row.ensures.each x q) first first in
    rw is (small_column_even t l w c.args.low.now c.args.high.now c.requires.low_len c.requires.high_len c.requires.small x q 0 (omega arith))

-- the even row at which a pair of rows begins
above_is : goal.join_pair-requires-clause-above
above_is c = λ x q.
    let t = c.args.transform in
    let l = c.args.level in
    let w = c.args.width in
    let low = column w c.args.low.now in
    let high = column w c.args.high.now in
    let le = high_le_low t l in
    let some = high_some t l in
    let n = c.loop-place.place in
    strip_at (2 * n * w) _ c.loop-place.out x (omega arith) ∙ c.loop-place.invariant (2 * n) x (omega arith) q ∙ joined_even t l (low x) (high x) n

pub join_pair-requires-clause-above : goal.join_pair-requires-clause-above
join_pair-requires-clause-above c = above_is c

pub loop-place-preserved : goal.loop-place-preserved
loop-place-preserved c = λ i x p q.
    let t = c.args.transform in
    let l = c.args.level in
    let w = c.args.width in
    let low = column w c.args.low.now in
    let high = column w c.args.high.now in
    let le = high_le_low t l in
    let some = high_some t l in
    let n = c.loop-place.place in
    let f : ℕ → ℕ → ℤ = λ r j. joined t l (low j) (high j) r in
    let two : 2 * (n + 1) ≡ 2 * n + 2 = omega arith in
    let more : (2 * n + 3) * w ≤ w * w = mul-le-mul_right w (omega arith) in
    let fits : 2 * n * w + 3 * w ≤ length c.loop-place.out = omega (arith, more) in
    rows_put w (2 * n) _ c.loop-place.out c.join_pair.new.rows f fits (omega arith) c.loop-place.invariant
    (λ j h. c.join_pair.ensures.above j h ∙ strip_at (2 * n * w) _ c.loop-place.out j (omega arith) ∙ c.loop-place.invariant (2 * n) j (omega arith) h)
    (λ j h. c.join_pair.ensures.odds j h ∙ sym (joined_odd t l (low j) (high j) n))
    (λ j h. c.join_pair.ensures.evens j h ∙ sym (joined_even t l (low j) (high j) (n + 1)) ∙ rw two refl)
    i x (omega arith) q

pub join_last-requires-clause-above : goal.join_last-requires-clause-above
join_last-requires-clause-above c = λ x q.
    let t = c.args.transform in
    let l = c.args.level in
    let w = c.args.width in
    let low = column w c.args.low.now in
    let high = column w c.args.high.now in
    let le = high_le_low t l in
    let some = high_some t l in
    let n = (w - 2) / 2 in
    let twice : w - 2 ≡ 2 * n = omega arith in
    let known = c.loop-place.invariant (w - 2) x (omega arith) q in
    strip_at ((w - 2) * w) _ c.loop-place.out x (omega arith) ∙ known ∙ ap (joined t l (low x) (high x)) twice ∙ joined_even t l (low x) (high x) n

pub returns-then-width-eq0 : goal.returns-then-width-eq0
returns-then-width-eq0 c = λ y x p q.
    let t = c.args.transform in
    let l = c.args.level in
    let w = c.args.width in
    let low = column w c.args.low.now in
    let high = column w c.args.high.now in
    let le = high_le_low t l in
    let some = high_some t l in
    let n = (w - 2) / 2 in
    let even_width : w - 2 + 1 ≡ 2 * n + 1 = omega arith in
    let f : ℕ → ℕ → ℤ = λ r j. joined t l (low j) (high j) r in
    let square : (w - 2 + 2) * w ≡ w * w = ap (λ k. k * w) (omega arith) in
    let fits : (w - 2) * w + 2 * w ≤ length c.loop-place.out = omega (arith, square) in
    row_put_last w (w - 2) _ c.loop-place.out c.join_last.new.rows f fits (omega arith) (λ i j a b. c.loop-place.invariant i j (omega arith) b)
    (λ j h. c.join_last.ensures.above j h ∙ strip_at ((w - 2) * w) _ c.loop-place.out j (omega arith) ∙ c.loop-place.invariant (w - 2) j (omega arith) h)
    (λ j h. c.join_last.ensures.odds j h ∙ sym (ap (joined t l (low j) (high j)) even_width ∙ joined_odd t l (low j) (high j) n))
    y x (omega arith) q

pub slice_bounds-lower-end : goal.slice_bounds-lower-end
slice_bounds-lower-end c =
    let t = c.args.transform in
    let l = c.args.level in
    let w = c.args.width in
    let few = line_few t l in
    let le = high_le_low t l in
    let some = high_some t l in
    let square : 1 * w ≤ w * w = mul-le-mul_right w (omega arith) in
    omega arith

pub slice_bounds-lower-end-2 : goal.slice_bounds-lower-end-2
slice_bounds-lower-end-2 c =
    let t = c.args.transform in
    let l = c.args.level in
    let w = c.args.width in
    let few = line_few t l in
    let le = high_le_low t l in
    let some = high_some t l in
    let square : 1 * w ≤ w * w = mul-le-mul_right w (omega arith) in
    let front = length-take-le w c.args.out.now (omega (arith, square)) in
    omega (arith, front)

pub overflow_sub-place-end : goal.overflow_sub-place-end
overflow_sub-place-end c =
    let le = high_le_low c.args.transform c.args.level in
    let some = high_some c.args.transform c.args.level in
    omega arith

pub overflow_mul-start : goal.overflow_mul-start
overflow_mul-start c = omega arith

pub overflow_mul-start-in-loop-place : goal.overflow_mul-start-in-loop-place
overflow_mul-start-in-loop-place c =
    let t = c.args.transform in
    let l = c.args.level in
    let w = c.args.width in
    let few = line_few t l in
    let le = high_le_low t l in
    let some = high_some t l in
    let more : (2 * c.loop-place.place + 3) * w ≤ w * w = mul-le-mul_right w (omega arith) in
    let small : w * w ≤ 64 * w = mul-le-mul_right w (omega arith) in
    omega arith

pub overflow_mul-width : goal.overflow_mul-width
overflow_mul-width c = omega arith

pub overflow_add-start : goal.overflow_add-start
overflow_add-start c =
    let t = c.args.transform in
    let l = c.args.level in
    let w = c.args.width in
    let few = line_few t l in
    let le = high_le_low t l in
    let some = high_some t l in
    let more : (2 * c.loop-place.place + 3) * w ≤ w * w = mul-le-mul_right w (omega arith) in
    let small : w * w ≤ 64 * w = mul-le-mul_right w (omega arith) in
    omega arith

pub offset_bounds-out-start : goal.offset_bounds-out-start
offset_bounds-out-start c =
    let t = c.args.transform in
    let l = c.args.level in
    let w = c.args.width in
    let few = line_few t l in
    let le = high_le_low t l in
    let some = high_some t l in
    let more : (2 * c.loop-place.place + 3) * w ≤ w * w = mul-le-mul_right w (omega arith) in
    let small : w * w ≤ 64 * w = mul-le-mul_right w (omega arith) in
    omega arith

pub slice_bounds-join_pair-count : goal.slice_bounds-join_pair-count
slice_bounds-join_pair-count c = omega arith

pub slice_bounds-join_pair-start : goal.slice_bounds-join_pair-start
slice_bounds-join_pair-start c = omega arith

pub slice_bounds-join_pair-end : goal.slice_bounds-join_pair-end
slice_bounds-join_pair-end c =
    let t = c.args.transform in
    let l = c.args.level in
    let w = c.args.width in
    let few = line_few t l in
    let le = high_le_low t l in
    let some = high_some t l in
    let more : (2 * c.loop-place.place + 3) * w ≤ w * w = mul-le-mul_right w (omega arith) in
    let small : w * w ≤ 64 * w = mul-le-mul_right w (omega arith) in
    omega arith

pub overflow_sub-start : goal.overflow_sub-start
overflow_sub-start c =
    let le = high_le_low c.args.transform c.args.level in
    let some = high_some c.args.transform c.args.level in
    omega arith

pub overflow_mul-start-then-width-eq0 : goal.overflow_mul-start-then-width-eq0
overflow_mul-start-then-width-eq0 c =
    let t = c.args.transform in
    let l = c.args.level in
    let w = c.args.width in
    let few = line_few t l in
    let le = high_le_low t l in
    let some = high_some t l in
    let whole : (w - 2 + 2) * w ≤ w * w = mul-le-mul_right w (omega arith) in
    let small : w * w ≤ 64 * w = mul-le-mul_right w (omega arith) in
    omega arith

pub overflow_sub-width : goal.overflow_sub-width
overflow_sub-width c =
    let le = high_le_low c.args.transform c.args.level in
    let some = high_some c.args.transform c.args.level in
    omega arith

pub overflow_mul-width-then-width-eq0 : goal.overflow_mul-width-then-width-eq0
overflow_mul-width-then-width-eq0 c = omega arith

pub overflow_add-start-then-width-eq0 : goal.overflow_add-start-then-width-eq0
overflow_add-start-then-width-eq0 c =
    let t = c.args.transform in
    let l = c.args.level in
    let w = c.args.width in
    let few = line_few t l in
    let le = high_le_low t l in
    let some = high_some t l in
    let whole : (w - 2 + 2) * w ≤ w * w = mul-le-mul_right w (omega arith) in
    let small : w * w ≤ 64 * w = mul-le-mul_right w (omega arith) in
    omega arith

pub offset_bounds-out-start-then-width-eq0 : goal.offset_bounds-out-start-then-width-eq0
offset_bounds-out-start-then-width-eq0 c =
    let t = c.args.transform in
    let l = c.args.level in
    let w = c.args.width in
    let few = line_few t l in
    let le = high_le_low t l in
    let some = high_some t l in
    let whole : (w - 2 + 2) * w ≤ w * w = mul-le-mul_right w (omega arith) in
    let small : w * w ≤ 64 * w = mul-le-mul_right w (omega arith) in
    omega arith

pub slice_bounds-join_last-count : goal.slice_bounds-join_last-count
slice_bounds-join_last-count c = omega arith

pub slice_bounds-join_last-start : goal.slice_bounds-join_last-start
slice_bounds-join_last-start c = omega arith

pub slice_bounds-join_last-end : goal.slice_bounds-join_last-end
slice_bounds-join_last-end c =
    let t = c.args.transform in
    let l = c.args.level in
    let w = c.args.width in
    let few = line_few t l in
    let le = high_le_low t l in
    let some = high_some t l in
    let whole : (w - 2 + 2) * w ≤ w * w = mul-le-mul_right w (omega arith) in
    let small : w * w ≤ 64 * w = mul-le-mul_right w (omega arith) in
    omega arith
