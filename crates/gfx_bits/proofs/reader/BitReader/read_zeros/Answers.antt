use Rattle.std.proofs.Common.{◌%◌, ◌*◌, ◌-◌, ◌+◌, ◌^◌, subst, refl, arith}
use Rattle.std.specs.Int.Count.{count_leading_zeros}
use Rattle.gfx_bits.specs.Bits.{Spelled, zeros_code}
use Rattle.gfx_bits.specs.Ahead.{bits_ahead}
use Rattle.gfx_bits.proofs.Ahead.{past, past_one, zeros_then_one, all_zeros}
use Rattle.gfx_bits.proofs.reader.BitReader.read_zeros.Goals as goal

pub invariant_of-self : goal.invariant_of-self
invariant_of-self c = (past_one c.self.inside.ahead c.self.inside.count (count_leading_zeros 64 c.self.inside.ahead) c.self.inside.rest.now (omega arith) c.self.invariant (omega arith)).1

pub returns-then-zeros-room-clause-spelled : goal.returns-then-zeros-room-clause-spelled
returns-then-zeros-room-clause-spelled c =
    subst (λ old. Spelled old (zeros_code c.args.most (count_leading_zeros 64 c.self.inside.ahead)) (bits_ahead (c.self.inside.ahead * 2 ^ (count_leading_zeros 64 c.self.inside.ahead) % 2 ^ 64 * 2 ^ 1 % 2 ^ 64) (c.self.inside.count - ((count_leading_zeros 64 c.self.inside.ahead) + 1)) c.self.inside.rest.now))
    c.self.view_is
    (zeros_then_one c.self.inside.ahead c.self.inside.count (count_leading_zeros 64 c.self.inside.ahead) c.args.most c.self.inside.rest.now (omega arith) c.self.invariant refl (omega arith) (omega arith))

pub invariant_of-self-then-most-self : goal.invariant_of-self-then-most-self
invariant_of-self-then-most-self c = (past c.self.inside.ahead c.self.inside.count c.args.most c.self.inside.rest.now (omega arith) c.self.invariant (omega arith)).1

pub returns-then-most-self-clause-spelled : goal.returns-then-most-self-clause-spelled
returns-then-most-self-clause-spelled c =
    subst (λ old. Spelled old (zeros_code c.args.most c.args.most) (bits_ahead (c.self.inside.ahead * 2 ^ c.args.most % 2 ^ 64) (c.self.inside.count - c.args.most) c.self.inside.rest.now))
    c.self.view_is
    (all_zeros c.self.inside.ahead c.self.inside.count (count_leading_zeros 64 c.self.inside.ahead) c.args.most c.self.inside.rest.now (omega arith) c.self.invariant refl (omega arith) (omega arith))
