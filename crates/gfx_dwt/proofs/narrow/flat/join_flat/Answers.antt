use Rattle.std.proofs.Common.{◌≡◌, ◌+◌, ◌*◌, ◌≤◌, ℤ, length, length-take, arith, rules, ap}
use Rattle.gfx_dwt.specs.declared.layout.Transform.TheVariants.{Plain}
use Rattle.gfx_dwt.specs.Place.{line_size, low_size}
use Rattle.gfx_dwt.proofs.Flat.{flat_joined, pairs_within}
use Rattle.gfx_dwt.proofs.Same.{within_more}
use Rattle.gfx_dwt.proofs.narrow.flat.join_flat.Goals as goal

pub returns-clause-joined : goal.returns-clause-joined
returns-clause-joined c =
    let n = c.low_size-size.result in
    let odds = c.flat_odds-most_odd.new.odds in
    let size : n ≡ low_size Plain c.args.level = c.low_size-size.ensures in
    let fits : 2 * (c.args.rows * (n + 1)) ≤ length c.args.spare.now = rw size c.requires.spare_len in
    let kept = c.flat_odds-most_odd.auto.odds in
    let back = c.split_at_mut-evens.ensures.back_len in
    let long : length odds ≡ c.args.rows * n = omega (arith, kept, back, fits, length-take {A = ℤ}) in
    flat_joined c.args.level n c.args.rows c.args.low.now c.args.high.now c.flat_evens-most_even.new.evens odds c.put_pairs.new.out c.low_size-size.ensures
    c.flat_evens-most_even.ensures.each c.flat_odds-most_odd.ensures.each
    (λ k h. c.put_pairs.ensures.evens k (omega (arith, h, long)))
    (λ k h. c.put_pairs.ensures.odds k (omega (arith, h, long)))

pub returns-clause-within : goal.returns-clause-within
returns-clause-within c =
    let l = c.args.level in
    let n = c.low_size-size.result in
    let evens = c.flat_evens-most_even.new.evens in
    let odds = c.flat_odds-most_odd.new.odds in
    let even : c.flat_evens-most_even.result ≤ c.max.result = search rules in
    let odd : c.flat_odds-most_odd.result ≤ c.max.result = search rules in
    let size : n ≡ low_size Plain c.args.level = c.low_size-size.ensures in
    let fits : 2 * (c.args.rows * (n + 1)) ≤ length c.args.spare.now = rw size c.requires.spare_len in
    let kept = c.flat_odds-most_odd.auto.odds in
    let back = c.split_at_mut-evens.ensures.back_len in
    let long : length odds ≡ c.args.rows * n = omega (arith, kept, back, fits, length-take {A = ℤ}) in
    let lines : c.args.rows * (n + n) ≡ c.args.rows * line_size Plain l = ap (λ m. c.args.rows * (m + m)) size in
    let filled = c.put_pairs.auto.out in
    let whole : length c.put_pairs.new.out ≡ 2 * (c.args.rows * n) = omega (arith, lines, filled) in
    pairs_within (c.args.rows * n) c.max.result evens odds c.put_pairs.new.out whole
    (λ k h. within_more c.flat_evens-most_even.result c.max.result _ even (c.flat_evens-most_even.ensures.within k h))
    (λ k h. within_more c.flat_odds-most_odd.result c.max.result _ odd (c.flat_odds-most_odd.ensures.within k (omega (arith, h, long))))
    (λ k h. c.put_pairs.ensures.evens k (omega (arith, h, long)))
    (λ k h. c.put_pairs.ensures.odds k (omega (arith, h, long)))
