use Rattle.std.proofs.Common.{◌∙◌, ap, arith, drop}
use Rattle.std.specs.Int.Count.{count_leading_zeros}
use Rattle.gfx_bits.specs.Bits.{first}
use Rattle.gfx_bits.proofs.Showing.{shows-zeros, shows-one}
use Rattle.gfx_bits.proofs.reader.zeros_of.Goals as goal

pub returns-clause-zeros : goal.returns-clause-zeros
returns-clause-zeros c bits is n h = shows-zeros 57 n c.args.word bits (omega arith) (omega arith) is (omega arith) (omega arith)

pub returns-clause-ends : goal.returns-clause-ends
returns-clause-ends c bits is h =
    ap (λ k. first (drop k bits)) {x = c.min.result} {y = count_leading_zeros 64 c.args.word} (omega arith)
    ∙ shows-one 57 c.args.word bits (omega arith) (omega arith) is (omega arith)
