use Rattle.std.proofs.Common.{◌∙◌, ap, FitsSigned, w32, arith}
use Rattle.std.proofs.lemmas.Int.{to_z-of_z}
use Rattle.gfx_quant.specs.Planes.{has_coefficient}
use Rattle.gfx_quant.proofs.Nearest.{nearest_has}
use Rattle.gfx_quant.proofs.rounding.round.Goals as goal

pub returns-clause-fits : goal.returns-clause-fits
returns-clause-fits c =
    let value : FitsSigned w32 c.args.c = c.ranges.c in
    let part : FitsSigned w32 c.rounded.result = record { sfits = c.rounded.type_inv } in
    ap (has_coefficient c.args.q) (to_z-of_z w32 c.rounded.result part ∙ (simp to_z-of_z at c.rounded.ensures)) ∙ nearest_has c.args.band c.args.c c.args.q (omega arith) (omega arith) c.requires.coefficient
