use Rattle.std.proofs.Common.{◌∙◌, ap, FitsSigned, w32, arith}
use Rattle.std.proofs.lemmas.Int.{to_z-of_z}
use Rattle.gfx_quant.specs.Coefficient.{capped}
use Rattle.gfx_quant.proofs.Nearest.{spread_floor}
use Rattle.gfx_quant.proofs.rounding.rounded_away.Goals as goal

pub returns : goal.returns
returns c =
    let value : FitsSigned w32 c.args.c = c.ranges.c in
    let spread : FitsSigned w32 c.spread.result = record { sfits = c.spread.type_inv } in
    let floored : FitsSigned w32 c.floored.result = record { sfits = c.floored.type_inv } in
    let most : FitsSigned w32 c.capped.result = record { sfits = c.capped.type_inv } in
    to_z-of_z w32 c.capped.result most
    ∙ (simp to_z-of_z at c.capped.ensures)
    ∙ ap (λ z. capped z c.args.base)
    ((simp to_z-of_z at c.floored.ensures)
    ∙ spread_floor c.args.c c.spread.result c.args.base (omega arith) (simp to_z-of_z at c.spread.ensures.below) (simp to_z-of_z at c.spread.ensures.rest))
