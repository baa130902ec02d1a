use Rattle.std.proofs.Common.{◌≡◌, ◌+◌, ◌-◌, ◌*◌, ◌∙◌, length, arith, refl, sym}
use Rattle.gfx_dwt.specs.Place.{high_size, line_size, low_size, low_start, part_start}
use Rattle.gfx_dwt.specs.Samples.{cell}
use Rattle.gfx_dwt.proofs.NarrowLevels.{AreRows, bands_small, bands_strip, level_of_rows, rows_of_bands, rows_small, sizes}
use Rattle.gfx_dwt.proofs.NarrowLines.{spare_fits}
use Rattle.gfx_dwt.proofs.narrow.levels.join_detailed.Goals as goal

pub returns-then-not-are_small-clause-wide : goal.returns-then-not-are_small-clause-wide
returns-then-not-are_small-clause-wide c = λ _ narrow.
    let t = c.args.transform in
    let l = c.args.level in
    let plane = c.args.coefficients.now in
    let e : c.low_size-low_size.result ≡ low_size t l = c.low_size-low_size.ensures in
    let f : c.high_size.result ≡ high_size t l = c.high_size.ensures in
    let n = c.low_size-low_size.result in
    let w = n + c.high_size.result in
    let a : 4096 - w * w ≡ part_start t l = rw (e, f) refl in
    let ends = (sizes t l).ends in
    let b : 4096 - n * n ≡ part_start t l + low_start t l = rw e (sym ends) in
    let strip = bands_strip t l plane (4096 - w * w) (4096 - n * n - (4096 - w * w)) a (omega (arith, a, b)) (omega arith) in
    c.if-not-are_small.ensures (bands_small t l plane _ c.args.low.now c.requires.low_len strip.0 strip.1 narrow)

pub join_narrow_quarters-small-requires-clause-spare_len : goal.join_narrow_quarters-small-requires-clause-spare_len
join_narrow_quarters-small-requires-clause-spare_len c =
    let fits = spare_fits c.args.transform c.args.level in
    rw c.requires.out_len fits

pub returns-then-not-are_small-2-clause-wide : goal.returns-then-not-are_small-2-clause-wide
returns-then-not-are_small-2-clause-wide c = λ _ narrow.
    let t = c.args.transform in
    let l = c.args.level in
    let plane = c.args.coefficients.now in
    let e : c.low_size-low_size.result ≡ low_size t l = c.low_size-low_size.ensures in
    let f : c.high_size.result ≡ high_size t l = c.high_size.ensures in
    let n = c.low_size-low_size.result in
    let w = n + c.high_size.result in
    let a : 4096 - w * w ≡ part_start t l = rw (e, f) refl in
    let ends = (sizes t l).ends in
    let b : 4096 - n * n ≡ part_start t l + low_start t l = rw e (sym ends) in
    let strip = bands_strip t l plane (4096 - w * w) (4096 - n * n - (4096 - w * w)) a (omega (arith, a, b)) (omega arith) in
    let are : AreRows t l plane (cell (low_size t l) c.args.low.now) c.join_narrow_quarters-small.new.above c.join_narrow_quarters-small.new.below = rows_of_bands t l plane _ c.args.low.now _ _ strip.1 c.join_narrow_quarters-small.ensures.above c.join_narrow_quarters-small.ensures.below in
    let high : w - n ≡ high_size t l = omega (arith, f) in
    let above : length c.join_narrow_quarters-small.new.above ≡ low_size t l * line_size t l = c.join_narrow_quarters-small.auto.above ∙ c.split_at_mut-above.ensures.front_len ∙ rw (e, f) refl in
    let below : length c.join_narrow_quarters-small.new.below ≡ high_size t l * line_size t l = c.join_narrow_quarters-small.auto.below ∙ c.split_at_mut-below.ensures.front_len ∙ rw (high, e, f) refl in
    c.if-not-are_small-2.ensures (rows_small t l plane _ _ _ above below are narrow)

pub returns-clause-joined : goal.returns-clause-joined
returns-clause-joined c = λ _ y x p q.
    let t = c.args.transform in
    let l = c.args.level in
    let plane = c.args.coefficients.now in
    let e : c.low_size-low_size.result ≡ low_size t l = c.low_size-low_size.ensures in
    let f : c.high_size.result ≡ high_size t l = c.high_size.ensures in
    let n = c.low_size-low_size.result in
    let w = n + c.high_size.result in
    let a : 4096 - w * w ≡ part_start t l = rw (e, f) refl in
    let ends = (sizes t l).ends in
    let b : 4096 - n * n ≡ part_start t l + low_start t l = rw e (sym ends) in
    let strip = bands_strip t l plane (4096 - w * w) (4096 - n * n - (4096 - w * w)) a (omega (arith, a, b)) (omega arith) in
    let are : AreRows t l plane (cell (low_size t l) c.args.low.now) c.join_narrow_quarters-small.new.above c.join_narrow_quarters-small.new.below = rows_of_bands t l plane _ c.args.low.now _ _ strip.1 c.join_narrow_quarters-small.ensures.above c.join_narrow_quarters-small.ensures.below in
    let whole : w ≡ line_size t l = rw (e, f) refl in
    rw whole at (c.join_narrow_columns.ensures y x (rw whole p) (rw whole q))
    ∙ level_of_rows t l plane _ _ _ are y x p q

pub offset_bounds-coefficients-width : goal.offset_bounds-coefficients-width
offset_bounds-coefficients-width c = omega arith

pub slice_bounds-bands-count : goal.slice_bounds-bands-count
slice_bounds-bands-count c = omega arith

pub slice_bounds-bands-start : goal.slice_bounds-bands-start
slice_bounds-bands-start c = omega arith

pub slice_bounds-bands-end : goal.slice_bounds-bands-end
slice_bounds-bands-end c = omega arith

pub overflow_sub-width : goal.overflow_sub-width
overflow_sub-width c = omega arith
