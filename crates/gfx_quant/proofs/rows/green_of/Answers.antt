use Rattle.std.proofs.Common.{FitsSigned, w16, w32, w64}
use Rattle.std.proofs.lemmas.Int.{to_z-of_z}
use Rattle.gfx_quant.proofs.Rests.{green_is}
use Rattle.gfx_quant.proofs.rows.green_of.Goals as goal

pub returns : goal.returns
returns c =
    let y : FitsSigned w16 c.args.y = c.ranges.y in
    let cb : FitsSigned w16 c.args.cb = c.ranges.cb in
    let cr : FitsSigned w16 c.args.cr = c.ranges.cr in
    let rest : FitsSigned w32 c.green_rest.result = record { sfits = c.green_rest.type_inv } in
    let part : FitsSigned w16 c.whole.result = record { sfits = c.whole.type_inv } in
    let total : FitsSigned w16 c.green_total.result = record { sfits = c.green_total.type_inv } in
    let wide : FitsSigned w64 c.from.result = record { sfits = c.from.type_inv } in
    green_is c.args.y c.args.cb c.args.cr c.green_rest.result c.whole.result c.green_total.result c.from.result c.level.result
    (simp to_z-of_z at c.green_rest.ensures.value) (simp to_z-of_z at c.whole.ensures.value) (simp to_z-of_z at c.green_total.ensures) (simp to_z-of_z at c.from.ensures) (simp to_z-of_z at c.level.ensures)
