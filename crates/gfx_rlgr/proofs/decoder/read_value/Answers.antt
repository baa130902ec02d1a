use Rattle.std.proofs.Common.{rules}
use Rattle.std.proofs.lemmas.Int.{to_z-of_z}
use Rattle.std.specs.Int.{w16}
use Rattle.std.specs.Prelude.{FitsSigned}
use Rattle.gfx_rlgr.proofs.Reading.{value-read}
use Rattle.gfx_rlgr.proofs.decoder.read_value.Goals as goal

pub returns : goal.returns
returns c =
    let fits : FitsSigned w16 c.unfolded.result = search rules in
    rw (to_z-of_z w16 c.unfolded.result fits)
    (value-read c.args.bits.now c.read_number-number.new.bits c.args.params.now c.read_number-number.new.params c.after_value.new.self c.read_number-number.result c.unfolded.result
    c.requires.single c.read_number-number.ensures c.after_value.ensures (c.unfolded.ensures c.read_number-number.ensures.exact c.read_number-number.ensures.same))
