use Rattle.std.proofs.Common.{FitsSigned, w16, w64}
use Rattle.std.proofs.lemmas.Int.{to_z-of_z}
use Rattle.gfx_quant.proofs.Rests.{capped_grey_is}
use Rattle.gfx_quant.proofs.greys.grey.Goals as goal

pub returns : goal.returns
returns c =
    let y : FitsSigned w16 c.args.y = c.ranges.y in
    let total : FitsSigned w16 c.lifted.result = record { sfits = c.lifted.type_inv } in
    let wide : FitsSigned w64 c.from.result = record { sfits = c.from.type_inv } in
    capped_grey_is c.args.y c.lifted.result c.from.result c.level.result
    (simp to_z-of_z at c.lifted.ensures.below) (simp to_z-of_z at c.lifted.ensures.rest) (simp to_z-of_z at c.from.ensures) (simp to_z-of_z at c.level.ensures)
