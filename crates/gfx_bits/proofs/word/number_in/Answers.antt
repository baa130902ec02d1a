use Rattle.std.proofs.Common.{◌*◌, ◌%◌, ◌^◌, ◌≤◌, arith}
use Rattle.std.proofs.Math.Pow.{pow_mono}
use Rattle.gfx_bits.proofs.Showing.{shows-number, few-bits}
use Rattle.gfx_bits.proofs.word.number_in.Goals as goal

pub overflow_cast-result-3 : goal.overflow_cast-result-3
overflow_cast-result-3 c =
    let small = few-bits (c.args.word * 2 ^ c.args.at % 2 ^ 64) c.args.n (omega (arith, c.requires.few)) (omega arith) in
    let most : 2 ^ c.args.n ≤ 2 ^ 32 = pow_mono c.requires.few in
    record { fits = omega arith }

pub returns : goal.returns
returns c shown bits inside high is = shows-number shown c.args.at c.args.n c.args.word bits inside (omega (arith, c.requires.few)) high is
