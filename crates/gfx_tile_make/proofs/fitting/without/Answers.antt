use Rattle.std.proofs.Common.{FitsSigned, w32}
use Rattle.std.proofs.lemmas.Int.{to_z-of_z}
use Rattle.gfx_quant.proofs.Smaller.{truncated_within}
use Rattle.gfx_tile_make.proofs.fitting.without.Goals as goal

pub returns-clause-small : goal.returns-clause-small
returns-clause-small c =
    let fits : FitsSigned w32 c.truncate.result = record { sfits = c.truncate.type_inv } in
    rw (to_z-of_z w32 c.truncate.result fits, c.truncate.ensures, to_z-of_z w32 c.args.value c.ranges.value) (truncated_within c.args.band 65535 c.args.value c.args.level c.requires.value)
