use Rattle.std.proofs.Common.{◌≤◌, ◌∙◌, ◌^◌, ap, drop, suc, arith}
use Rattle.std.proofs.Math.Pow.{pow_mono}
use Rattle.gfx_bits.specs.Bits.{number, ones}
use Rattle.gfx_bits.specs.Ahead.{bits_ahead}
use Rattle.gfx_bits.proofs.Laws.{number_below}
use Rattle.gfx_bits.proofs.Ahead.{ones_then}
use Rattle.gfx_bits.proofs.reader.BitReader.read_ones_then.Goals as goal

pub overflow_cast-result : goal.overflow_cast-result
overflow_cast-result c =
    let most : 2 ^ c.args.n ≤ 2 ^ 32 = pow_mono c.requires in
    let bits = bits_ahead c.self.inside.ahead c.self.inside.count c.self.inside.rest.now in
    omega (
      arith,
      (ones_then c.self.inside.ahead c.self.inside.count c.args.n c.leading_ones-ones.result c.self.inside.rest.now (omega arith) c.self.invariant c.leading_ones-ones.ensures c.if-taken-self.true).1,
      number_below c.args.n (drop (suc (ones bits)) bits),
    )

pub invariant_of-self : goal.invariant_of-self
invariant_of-self c =
    (ones_then c.self.inside.ahead c.self.inside.count c.args.n c.leading_ones-ones.result c.self.inside.rest.now (omega arith) c.self.invariant c.leading_ones-ones.ensures c.if-taken-self.true).3

pub returns-then-taken-self-clause-count : goal.returns-then-taken-self-clause-count
returns-then-taken-self-clause-count c =
    omega (
      arith,
      (ones_then c.self.inside.ahead c.self.inside.count c.args.n c.leading_ones-ones.result c.self.inside.rest.now (omega arith) c.self.invariant c.leading_ones-ones.ensures c.if-taken-self.true).0,
      ap ones c.self.view_is,
    )

pub returns-then-taken-self-clause-value : goal.returns-then-taken-self-clause-value
returns-then-taken-self-clause-value c =
    (ones_then c.self.inside.ahead c.self.inside.count c.args.n c.leading_ones-ones.result c.self.inside.rest.now (omega arith) c.self.invariant c.leading_ones-ones.ensures c.if-taken-self.true).1
    ∙ ap (λ bits. number c.args.n (drop (suc (ones bits)) bits)) c.self.view_is

pub returns-then-taken-self-clause-rest : goal.returns-then-taken-self-clause-rest
returns-then-taken-self-clause-rest c =
    (ones_then c.self.inside.ahead c.self.inside.count c.args.n c.leading_ones-ones.result c.self.inside.rest.now (omega arith) c.self.invariant c.leading_ones-ones.ensures c.if-taken-self.true).2
    ∙ ap (λ bits. drop c.args.n (drop (suc (ones bits)) bits)) c.self.view_is
