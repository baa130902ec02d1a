use Rattle.std.proofs.Common.{ℕ, ◌*◌, ◌/◌, ◌%◌, ◌-◌, ◌^◌, arith, drop}
use Rattle.std.proofs.lemmas.Nat.{one_shl}
use Rattle.gfx_bits.proofs.Showing.{shows-behind, ended-code, ended-size, zeros-ended}
use Rattle.gfx_bits.proofs.word.zeros_behind.Goals as goal

pub returns-clause-most : goal.returns-clause-most
returns-clause-most c =
    rw (one_shl (63 - c.args.most) 64 (omega arith)) (zeros-ended c.args.most (c.args.word * 2 ^ 1 % 2 ^ 64) (omega (arith, c.requires.few)) (omega arith))

pub returns-clause-spelled : goal.returns-clause-spelled
returns-clause-spelled c shown bits inside high is =
    let zeros : ℕ = c.args.word * 2 ^ 1 % 2 ^ 64 in
    rw (one_shl (63 - c.args.most) 64 (omega arith), ended-size c.args.most zeros c.requires.few (omega arith))
    (ended-code (shown - 1) c.args.most zeros (drop 1 bits) (omega arith) (omega (arith, c.requires.few)) (omega arith) (omega arith)
    (shows-behind shown 1 c.args.word bits (omega arith) high is))

pub returns-clause-size : goal.returns-clause-size
returns-clause-size c =
    rw (one_shl (63 - c.args.most) 64 (omega arith)) (ended-size c.args.most (c.args.word * 2 ^ 1 % 2 ^ 64) c.requires.few (omega arith))

pub returns-clause-within : goal.returns-clause-within
returns-clause-within c =
    rw (one_shl (63 - c.args.most) 64 (omega arith)) (zeros-ended c.args.most (c.args.word * 2 ^ 1 % 2 ^ 64 / 2 ^ 1) (omega (arith, c.requires.few)) (omega arith))
