use Rattle.std.proofs.Common.{◌∙◌, ◌-◌, ap, FitsSigned, w32}
use Rattle.std.specs.Int.{int_shr}
use Rattle.std.proofs.lemmas.Int.{to_z-of_z}
use Rattle.gfx_quant.specs.Coefficient.{capped, nearest}
use Rattle.gfx_quant.proofs.rounding.rounded_up.Goals as goal

pub returns : goal.returns
unfolding nearest
returns c =
    let value : FitsSigned w32 c.args.c = c.ranges.c in
    let raised : FitsSigned w32 c.raised.result = record { sfits = c.raised.type_inv } in
    let floored : FitsSigned w32 c.floored.result = record { sfits = c.floored.type_inv } in
    let most : FitsSigned w32 c.capped.result = record { sfits = c.capped.type_inv } in
    to_z-of_z w32 c.capped.result most
    ∙ (simp to_z-of_z at c.capped.ensures)
    ∙ ap (λ z. capped z c.args.base) ((simp to_z-of_z at c.floored.ensures) ∙ ap (λ z. int_shr z (c.args.base - 1)) (simp to_z-of_z at c.raised.ensures))
