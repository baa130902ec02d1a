use Rattle.std.proofs.Common.{rules, get_or, pos}
use Rattle.std.proofs.lemmas.Int.{to_z-of_z}
use Rattle.std.specs.Int.{w32}
use Rattle.std.specs.Prelude.{FitsSigned}
use Rattle.gfx_rlgr.specs.declared.mode.Mode.TheVariants.{Rlgr1}
use Rattle.gfx_rlgr.proofs.Encoding.{covers-value}
use Rattle.gfx_rlgr.proofs.encoder.write_one.Goals as goal

pub returns : goal.returns
returns c =
    let fits : FitsSigned w32 (get_or c.args.values.now c.args.at (pos 0)) = search rules in
    covers-value Rlgr1 c.args.values.now c.args.at _ c.args.bits.now c.write_value.new.bits c.args.params.now c.write_value.new.params c.requires.within c.requires.place
    (to_z-of_z w32 (get_or c.args.values.now c.args.at (pos 0)) fits) c.in_ok-write_value.ensures
