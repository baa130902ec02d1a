use Rattle.std.proofs.Common.{◌∙◌, ◌*◌, ap, arith, drop}
use Rattle.gfx_bits.specs.Bits.{number}
use Rattle.gfx_tile_state.proofs.Fours.{fits-number, plain-number, small-number, three-on, two-on}
use Rattle.gfx_tile_state.proofs.entries.read_four.Goals as goal

pub overflow_cast-result : goal.overflow_cast-result
overflow_cast-result c =
    let n = c.args.n in
    let bits = c.args.bits.now in
    fits-number n c.number_in.result bits c.requires (c.number_in.ensures (4 * n) bits (omega (arith, c.requires)) (omega (arith, c.requires)) c.peek-word.ensures.shows)

pub overflow_cast-result-2 : goal.overflow_cast-result-2
overflow_cast-result-2 c =
    let n = c.args.n in
    let bits = c.args.bits.now in
    fits-number n c.number_in-2.result (drop n bits) c.requires (c.number_in-2.ensures (4 * n) bits (omega (arith, c.requires)) (omega (arith, c.requires)) c.peek-word.ensures.shows)

pub overflow_cast-result-3 : goal.overflow_cast-result-3
overflow_cast-result-3 c =
    let n = c.args.n in
    let bits = c.args.bits.now in
    fits-number n c.number_in-3.result (drop n (drop n bits)) c.requires (c.number_in-3.ensures (4 * n) bits (omega (arith, c.requires)) (omega (arith, c.requires)) c.peek-word.ensures.shows ∙ ap (number n) (two-on n bits))

pub overflow_cast-result-4 : goal.overflow_cast-result-4
overflow_cast-result-4 c =
    let n = c.args.n in
    let bits = c.args.bits.now in
    fits-number n c.number_in-4.result (drop n (drop n (drop n bits))) c.requires (c.number_in-4.ensures (4 * n) bits (omega (arith, c.requires)) (omega (arith, c.requires)) c.peek-word.ensures.shows ∙ ap (number n) (three-on n bits))

pub returns-clause-first : goal.returns-clause-first
returns-clause-first c =
    let n = c.args.n in
    let bits = c.args.bits.now in
    plain-number n c.number_in.result bits c.requires (c.number_in.ensures (4 * n) bits (omega (arith, c.requires)) (omega (arith, c.requires)) c.peek-word.ensures.shows)

pub returns-clause-second : goal.returns-clause-second
returns-clause-second c =
    let n = c.args.n in
    let bits = c.args.bits.now in
    plain-number n c.number_in-2.result (drop n bits) c.requires (c.number_in-2.ensures (4 * n) bits (omega (arith, c.requires)) (omega (arith, c.requires)) c.peek-word.ensures.shows)

pub returns-clause-third : goal.returns-clause-third
returns-clause-third c =
    let n = c.args.n in
    let bits = c.args.bits.now in
    plain-number n c.number_in-3.result (drop n (drop n bits)) c.requires (c.number_in-3.ensures (4 * n) bits (omega (arith, c.requires)) (omega (arith, c.requires)) c.peek-word.ensures.shows ∙ ap (number n) (two-on n bits))

pub returns-clause-fourth : goal.returns-clause-fourth
returns-clause-fourth c =
    let n = c.args.n in
    let bits = c.args.bits.now in
    plain-number n c.number_in-4.result (drop n (drop n (drop n bits))) c.requires (c.number_in-4.ensures (4 * n) bits (omega (arith, c.requires)) (omega (arith, c.requires)) c.peek-word.ensures.shows ∙ ap (number n) (three-on n bits))

pub returns-clause-small : goal.returns-clause-small
returns-clause-small c =
    let n = c.args.n in
    let bits = c.args.bits.now in (
      small-number n c.number_in.result bits c.requires (c.number_in.ensures (4 * n) bits (omega (arith, c.requires)) (omega (arith, c.requires)) c.peek-word.ensures.shows),
      small-number n c.number_in-2.result (drop n bits) c.requires (c.number_in-2.ensures (4 * n) bits (omega (arith, c.requires)) (omega (arith, c.requires)) c.peek-word.ensures.shows),
      small-number n c.number_in-3.result (drop n (drop n bits)) c.requires (c.number_in-3.ensures (4 * n) bits (omega (arith, c.requires)) (omega (arith, c.requires)) c.peek-word.ensures.shows ∙ ap (number n) (two-on n bits)),
      small-number n c.number_in-4.result (drop n (drop n (drop n bits))) c.requires (c.number_in-4.ensures (4 * n) bits (omega (arith, c.requires)) (omega (arith, c.requires)) c.peek-word.ensures.shows ∙ ap (number n) (three-on n bits)),
    )
