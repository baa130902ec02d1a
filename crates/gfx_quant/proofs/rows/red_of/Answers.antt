use Rattle.std.proofs.Common.{FitsSigned, w16, w32, w64}
use Rattle.std.proofs.lemmas.Int.{to_z-of_z}
use Rattle.gfx_quant.proofs.Rests.{red_is}
use Rattle.gfx_quant.proofs.rows.red_of.Goals as goal

pub returns : goal.returns
returns c =
    let y : FitsSigned w16 c.args.y = c.ranges.y in
    let cr : FitsSigned w16 c.args.cr = c.ranges.cr in
    let rest : FitsSigned w32 c.red_rest.result = record { sfits = c.red_rest.type_inv } in
    let part : FitsSigned w16 c.whole.result = record { sfits = c.whole.type_inv } in
    let total : FitsSigned w16 c.red_total.result = record { sfits = c.red_total.type_inv } in
    let wide : FitsSigned w64 c.from.result = record { sfits = c.from.type_inv } in
    red_is c.args.y c.args.cr c.red_rest.result c.whole.result c.red_total.result c.from.result c.level.result
    (simp to_z-of_z at c.red_rest.ensures.value) (simp to_z-of_z at c.whole.ensures.value) (simp to_z-of_z at c.red_total.ensures) (simp to_z-of_z at c.from.ensures) (simp to_z-of_z at c.level.ensures)
