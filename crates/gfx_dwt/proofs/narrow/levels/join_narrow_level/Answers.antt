use Rattle.std.proofs.Common.{◌≡◌, ◌+◌, ◌-◌, ◌*◌, ◌∙◌, arith, refl, sym}
use Rattle.gfx_dwt.specs.Place.{high_size, low_size, low_start, part_start}
use Rattle.gfx_dwt.proofs.NarrowLevels.{bands_strip, low_small, sizes}
use Rattle.gfx_dwt.proofs.narrow.levels.join_narrow_level.Goals as goal

pub returns-then-all_are-clause-joined : goal.returns-then-all_are-clause-joined
returns-then-all_are-clause-joined c = λ narrow.
    let t = c.args.transform in
    let l = c.args.level in
    let plane = c.args.coefficients.now in
    let e : c.low_size-low_size.result ≡ low_size t l = c.low_size-low_size.ensures in
    let f : c.high_size.result ≡ high_size t l = c.high_size.ensures in
    let n = c.low_size-low_size.result in
    let w = n + c.high_size.result in
    let a : 4096 - w * w ≡ part_start t l = rw (e, f) refl in
    let ends = (sizes t l).ends in
    let b : 4096 - n * n ≡ part_start t l + low_start t l = rw e (sym ends) in
    let strip = bands_strip t l plane (4096 - w * w) (4096 - n * n - (4096 - w * w)) a (omega (arith, a, b)) (omega arith) in
    c.join_smooth.ensures.joined narrow plane (λ k h. sym (strip.1 k h) ∙ c.if-all_are.ensures k (rw strip.0 h))

pub returns-then-all_are-clause-wide : goal.returns-then-all_are-clause-wide
returns-then-all_are-clause-wide c = λ wide narrow.
    c.join_smooth.ensures.wide wide (low_small c.args.transform c.args.level c.args.coefficients.now c.args.low.now c.requires.low_len narrow)
