use Rattle.std.proofs.Common.{◌∙◌, ◌+◌, ◌&&◌, refl, subst, arith, drop, take}
use Rattle.gfx_tile_state.specs.declared.entries.Readers.{Readers}
use Rattle.gfx_tile_state.specs.Sifting.{Sifted}
use Rattle.gfx_tile_state.proofs.Fours.{all-four}
use Rattle.gfx_tile_state.proofs.Sums.{small-bits}
use Rattle.gfx_tile_state.proofs.upgrading.others.pass_four.Goals as goal

pub returns-clause-sifted : goal.returns-clause-sifted
returns-clause-sifted c pass from to count noughts fits order end inside room alike s =
    let n = c.args.n in
    let four = c.read_four-first in
    let one = c.add_other-first_fits in
    let two = c.add_other-second_fits in
    let three = c.add_other-third_fits in
    let last = c.add_other-fourth_fits in
    let first : Readers = c.args.readers.now in
    let second : Readers = record first { bits = drop n first.bits } in
    let third : Readers = record first { bits = drop n second.bits } in
    let fourth : Readers = record first { bits = drop n third.bits } in
    let behind : Readers = record first { bits = four.new.bits } in
    let a = one.ensures.sifted pass from to n count noughts fits first second order end alike c.requires.some (omega (arith, inside)) room (small-bits four.result.0 four.ensures.small.0 ∙ four.ensures.first) refl refl s in
    let b = two.ensures.sifted pass from to n count noughts (fits && one.result) second third order end alike c.requires.some (omega (arith, inside)) room (small-bits four.result.1 four.ensures.small.1 ∙ four.ensures.second) refl refl a in
    let d =
    three.ensures.sifted pass from to n count noughts ((fits && one.result) && two.result) third fourth order end alike c.requires.some (omega (arith, inside)) room (small-bits four.result.2 four.ensures.small.2 ∙ four.ensures.third) refl refl
    (subst (λ i. Sifted pass from to noughts (take count c.args.others.now) 0 i two.new.plane ((fits && one.result) && two.result) third) {x = c.args.index + 1 + 1} {y = c.args.index + 2} (omega arith) b) in
    let e =
    last.ensures.sifted pass from to n count noughts (((fits && one.result) && two.result) && three.result) fourth behind order end alike c.requires.some (omega (arith, inside)) room (small-bits four.result.3 four.ensures.small.3 ∙ four.ensures.fourth) four.ensures.rest refl
    (subst (λ i. Sifted pass from to noughts (take count c.args.others.now) 0 i three.new.plane (((fits && one.result) && two.result) && three.result) fourth) {x = c.args.index + 2 + 1} {y = c.args.index + 3} (omega arith) d) in
    subst (λ i. Sifted pass from to noughts (take count c.args.others.now) 0 i last.new.plane (fits && (((one.result && two.result) && three.result) && last.result)) behind) {x = c.args.index + 3 + 1} {y = c.args.index + 4} (omega arith)
    (subst (λ f. Sifted pass from to noughts (take count c.args.others.now) 0 (c.args.index + 3 + 1) last.new.plane f behind) (all-four fits one.result two.result three.result last.result) e)
