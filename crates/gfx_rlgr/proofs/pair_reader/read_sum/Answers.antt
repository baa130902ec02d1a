use Rattle.std.proofs.Common.{◌∙◌, ap, arith, drop}
use Rattle.gfx_rlgr.proofs.Sums.{few-counted, long-sum}
use Rattle.gfx_rlgr.proofs.pair_reader.read_sum.Goals as goal

pub overflow_add-sum : goal.overflow_add-sum
overflow_add-sum c =
    let few = few-counted c.count_ones-ones.result c.args.bits.now c.count_ones-ones.ensures.count c.requires.count in
    let sum = long-sum _ c.args.low _ c.args.bits.now _ c.count_ones-ones.ensures.count few c.requires.low c.count_ones-ones.ensures.rest c.read.ensures.value in
    record { fits = omega (arith, sum.1) }

pub returns-clause-sum : goal.returns-clause-sum
returns-clause-sum c =
    let few = few-counted c.count_ones-ones.result c.args.bits.now c.count_ones-ones.ensures.count c.requires.count in
    (long-sum _ c.args.low _ c.args.bits.now _ c.count_ones-ones.ensures.count few c.requires.low c.count_ones-ones.ensures.rest c.read.ensures.value).0

pub returns-clause-small : goal.returns-clause-small
returns-clause-small c =
    let few = few-counted c.count_ones-ones.result c.args.bits.now c.count_ones-ones.ensures.count c.requires.count in
    (long-sum _ c.args.low _ c.args.bits.now _ c.count_ones-ones.ensures.count few c.requires.low c.count_ones-ones.ensures.rest c.read.ensures.value).1

pub returns-clause-rest : goal.returns-clause-rest
returns-clause-rest c = c.read.ensures.rest ∙ ap (drop c.args.low) c.count_ones-ones.ensures.rest
