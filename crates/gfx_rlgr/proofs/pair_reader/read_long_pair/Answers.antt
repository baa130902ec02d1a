use Rattle.std.proofs.Common.{rules, ◌∙◌, ap, arith, min, ◌-◌, ◌^◌}
use Rattle.std.proofs.lemmas.Int.{to_z-of_z}
use Rattle.std.specs.Int.{w16}
use Rattle.std.specs.Prelude.{FitsSigned}
use Rattle.gfx_rlgr.proofs.PairSteps.{pair-read}
use Rattle.gfx_rlgr.proofs.pair_reader.read_long_pair.Goals as goal

pub read_wide-one-requires : goal.read_wide-one-requires
read_wide-one-requires c = omega (arith, c.digits_of_large.ensures.few 78 c.read_sum-ones.ensures.small)

pub returns : goal.returns
returns c =
    let first-fits : FitsSigned w16 c.first.result = search rules in
    let second-fits : FitsSigned w16 c.unfolded.result = search rules in
    rw (← c.copy-reader.ensures, to_z-of_z w16 c.first.result first-fits, to_z-of_z w16 c.unfolded.result second-fits)
    (pair-read c.copy-reader.result c.read_sum-ones.new.bits c.read_wide-one.new.bits _ _ _ c.narrow.result c.kr-low.result c.read_sum-ones.result.1 _ c.read_wide-one.result _ _ _ _ _
    c.requires.single c.kr-low.ensures c.read_sum-ones.ensures.sum c.read_sum-ones.ensures.rest
    c.digits_of_large.ensures.value c.read_wide-one.ensures.value c.read_wide-one.ensures.rest c.saturating_sub-other.ensures c.narrow-less.ensures c.narrow-rest.ensures
    (c.narrow.ensures ∙ ap (λ n. min n (2 ^ 32 - 1)) c.read_sum-ones.ensures.ones) c.after_ones.ensures c.after_pair.ensures
    c.first.ensures.broken c.first.ensures.whole c.unfolded.ensures)
