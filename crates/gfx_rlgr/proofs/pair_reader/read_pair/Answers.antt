use Rattle.std.proofs.Common.{rules, ◌+◌, arith}
use Rattle.std.proofs.lemmas.Int.{to_z-of_z}
use Rattle.std.specs.Int.{w16}
use Rattle.std.specs.Prelude.{FitsSigned}
use Rattle.gfx_rlgr.proofs.PairSteps.{pair-read}
use Rattle.gfx_rlgr.proofs.Sums.{behind-both, behind-sum}
use Rattle.gfx_rlgr.proofs.pair_reader.read_pair.Goals as goal

pub number_in-one-requires-clause-inside : goal.number_in-one-requires-clause-inside
number_in-one-requires-clause-inside c = omega (arith, c.digits_of-width.ensures.few 15 c.sum_in-sum.ensures.small, c.kr-low.ensures, c.requires.within.krp)

pub pass-requires : goal.pass-requires
pass-requires c = omega (arith, c.digits_of-width.ensures.few 15 c.sum_in-sum.ensures.small, c.kr-low.ensures, c.requires.within.krp)

pub returns : goal.returns
returns c =
    let ones-are = c.ones_of-ones.ensures c.args.bits.now c.peek-word.ensures.shows in
    let few = c.digits_of-width.ensures.few 15 c.sum_in-sum.ensures.small in
    let first-fits : FitsSigned w16 c.first.result = search rules in
    let second-fits : FitsSigned w16 c.unfolded.result = search rules in
    rw (to_z-of_z w16 c.first.result first-fits, to_z-of_z w16 c.unfolded.result second-fits)
    (pair-read c.args.bits.now _ c.pass.new.self _ _ _ c.ones_of-ones.result c.kr-low.result c.sum_in-sum.result c.digits_of-width.result c.number_in-one.result _ _ _ _ _
    c.requires.single c.kr-low.ensures (c.sum_in-sum.ensures.sum c.args.bits.now c.peek-word.ensures.shows ones-are)
    (behind-sum c.ones_of-ones.result c.kr-low.result c.args.bits.now ones-are c.if-ones-ge-FEW_ONES.false) c.digits_of-width.ensures.value
    (c.number_in-one.ensures 57 c.args.bits.now (omega (arith, few, c.kr-low.ensures, c.requires.within.krp)) (omega arith) c.peek-word.ensures.shows)
    (behind-both (c.ones_of-ones.result + 1 + c.kr-low.result) c.digits_of-width.result c.args.bits.now _ _ c.peek-word.ensures.same c.pass.ensures)
    c.saturating_sub-other.ensures (omega arith) (omega arith) (omega (arith, ones-are, c.if-ones-ge-FEW_ONES.false)) c.after_ones.ensures c.after_pair.ensures
    c.first.ensures.broken c.first.ensures.whole c.unfolded.ensures)
