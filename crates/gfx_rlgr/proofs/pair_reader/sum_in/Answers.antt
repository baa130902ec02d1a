use Rattle.std.proofs.Common.{◌+◌, ◌<◌, ◌^◌, ◌/◌, arith, drop}
use Rattle.gfx_bits.specs.Bits.{digits}
use Rattle.gfx_rlgr.proofs.Sums.{low-below, looked-small, looked-sum, word-shows}
use Rattle.gfx_rlgr.proofs.pair_reader.sum_in.Goals as goal

-- the low bits are below so much
low : (c : goal.After-number_in) → c.number_in.result < 2 ^ c.args.low
low c =
    low-below c.args.low c.number_in.result (drop (c.args.high + 1) (digits 57 (c.args.word / 2 ^ 7)))
    (c.number_in.ensures 57 (digits 57 (c.args.word / 2 ^ 7)) (omega (arith, c.requires.few, c.requires.low)) (omega arith) (word-shows c.args.word (omega arith)))

pub overflow_add-result : goal.overflow_add-result
overflow_add-result c = record { fits = omega (arith, looked-small c.args.high c.args.low c.number_in.result c.requires.few c.requires.low (low c)) }

pub returns-clause-sum : goal.returns-clause-sum
returns-clause-sum c bits shows are =
    looked-sum c.args.high c.args.low c.number_in.result bits are c.requires.few c.requires.low
    (c.number_in.ensures 57 bits (omega (arith, c.requires.few, c.requires.low)) (omega arith) shows)

pub returns-clause-small : goal.returns-clause-small
returns-clause-small c = looked-small c.args.high c.args.low c.number_in.result c.requires.few c.requires.low (low c)
