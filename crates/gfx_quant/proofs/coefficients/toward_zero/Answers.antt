use Rattle.std.proofs.Common.{◌∙◌, FitsSigned, w32}
use Rattle.std.proofs.lemmas.Int.{to_z-of_z}
use Rattle.gfx_quant.proofs.Quotients.{raised_floor}
use Rattle.gfx_quant.proofs.coefficients.toward_zero.Goals as goal

pub returns : goal.returns
returns c =
    let value : FitsSigned w32 c.args.v = c.ranges.v in
    let raised : FitsSigned w32 c.raised.result = record { sfits = c.raised.type_inv } in
    let floored : FitsSigned w32 c.floored.result = record { sfits = c.floored.type_inv } in
    to_z-of_z w32 c.floored.result floored
    ∙ raised_floor c.args.v c.raised.result c.floored.result c.args.bits
    (simp to_z-of_z at c.raised.ensures.below) (simp to_z-of_z at c.raised.ensures.rest) (simp to_z-of_z at c.floored.ensures)
