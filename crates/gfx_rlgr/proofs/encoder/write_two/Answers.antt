use Rattle.std.proofs.Common.{rules, ◌∙◌, get_or, pos}
use Rattle.std.proofs.lemmas.Int.{to_z-of_z}
use Rattle.std.specs.Int.{w32}
use Rattle.std.specs.Prelude.{FitsSigned}
use Rattle.gfx_rlgr.proofs.PairSteps.{covers-pair}
use Rattle.gfx_rlgr.proofs.encoder.write_two.Goals as goal

pub returns : goal.returns
returns c =
    let fits : FitsSigned w32 (get_or c.args.values.now c.args.at (pos 0)) = search rules in
    let other-fits : FitsSigned w32 c.value_at-other.result = search rules in
    covers-pair c.args.values.now c.args.at _ _ _ c.args.bits.now c.write_pair.new.bits c.args.params.now c.write_pair.new.params c.requires.within c.requires.place
    c.min.ensures
    (to_z-of_z w32 (get_or c.args.values.now c.args.at (pos 0)) fits) (to_z-of_z w32 c.value_at-other.result other-fits ∙ c.value_at-other.ensures.value)
    c.in_ok-write_pair.ensures
