use Rattle.std.proofs.Common.{◌≡◌, ◌+◌, ◌-◌, ◌*◌, ◌<◌, ◌≤◌, ◌∙◌, ℤ, pos, length, length-take, length-drop, arith, rules}
use Rattle.gfx_dwt.specs.declared.layout.Transform.TheVariants.{Plain}
use Rattle.gfx_dwt.proofs.Flat.{columns_within, cut_even, ended_within, flat_even, inner_even, lowered_small, put_behind}
use Rattle.gfx_dwt.proofs.Planes.{place_in}
use Rattle.gfx_dwt.proofs.Small.{small_even}
use Rattle.gfx_dwt.proofs.narrow.flat.flat_evens.Goals as goal

pub evens_of-most-requires-clause-evens : goal.evens_of-most-requires-clause-evens
evens_of-most-requires-clause-evens c = λ k h.
    let n = c.args.rows * c.args.size - 1 in
    let low = c.args.low.now in
    let high = c.args.high.now in
    let inside : k < n = omega (arith, h, length-take {A = ℤ}) in
    rw (cut_even n low high k inside) (small_even Plain low high c.requires.small (1 + k) k (1 + k))

pub returns-clause-each : goal.returns-clause-each
returns-clause-each c = λ r k p h.
    let w = c.args.size in
    let rows = c.args.rows in
    let low = c.args.low.now in
    let high = c.args.high.now in
    let evens = c.first_evens-first.new.evens in
    let written = c.evens_of-most.new.out in
    let kept = c.evens_of-most.auto.out in
    let long : length written ≡ rows * w - 1 = omega (arith, kept, length-take {A = ℤ}, length-drop {A = ℤ}) in
    put_behind (rows * w) evens (pos 0) (r * w + k) (place_in w rows r k p h)
    ∙ flat_even w rows low high written evens
    (λ j q. c.evens_of-most.ensures.each j (omega (arith, q, long, kept)) ∙ cut_even (rows * w - 1) low high j q)
    c.first_evens-first.ensures.first
    (inner_even w rows c.args.evens.now written evens c.requires.evens_len long c.first_evens-first.ensures.others)
    r k p h

pub returns-clause-within : goal.returns-clause-within
returns-clause-within c = λ k h.
    let w = c.args.size in
    let rows = c.args.rows in
    let evens = c.first_evens-first.new.evens in
    let written = c.evens_of-most.new.out in
    let kept = c.evens_of-most.auto.out in
    let long : length written ≡ rows * w - 1 = omega (arith, kept, length-take {A = ℤ}, length-drop {A = ℤ}) in
    let first : c.first_evens-first.result ≤ c.max.result = search rules in
    let all : c.evens_of-most.result ≤ c.max.result = search rules in
    rw (put_behind (rows * w) evens (pos 0) k h)
    (columns_within w rows 0 c.first_evens-first.result c.evens_of-most.result c.max.result evens first all c.first_evens-first.ensures.within
    (λ r j p q other.
    let inside = place_in w rows r j p q in
    rw (inner_even w rows c.args.evens.now written evens c.requires.evens_len long c.first_evens-first.ensures.others r j p (omega (arith, other)) q)
    (c.evens_of-most.ensures.within (r * w + (j - 1)) (omega (arith, long, inside, other))))
    k h)

pub returns-clause-small : goal.returns-clause-small
returns-clause-small c =
    let w = c.args.size in
    let rows = c.args.rows in
    let kept = c.first_evens-first.auto.evens in
    ended_within w rows 16382 c.first_evens-first.new.evens (omega (arith, kept))
    (λ r k p h. rw (returns-clause-each c r k p h) (lowered_small w c.args.low.now c.args.high.now c.requires.small r k))
