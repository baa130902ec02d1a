use Rattle.std.proofs.Common.{FitsSigned, w16, w32, w64}
use Rattle.std.proofs.lemmas.Int.{to_z-of_z}
use Rattle.gfx_quant.proofs.Rests.{blue_is}
use Rattle.gfx_quant.proofs.rows.blue_of.Goals as goal

pub returns : goal.returns
returns c =
    let y : FitsSigned w16 c.args.y = c.ranges.y in
    let cb : FitsSigned w16 c.args.cb = c.ranges.cb in
    let rest : FitsSigned w32 c.blue_rest.result = record { sfits = c.blue_rest.type_inv } in
    let part : FitsSigned w16 c.small_whole.result = record { sfits = c.small_whole.type_inv } in
    let total : FitsSigned w16 c.blue_total.result = record { sfits = c.blue_total.type_inv } in
    let wide : FitsSigned w64 c.from.result = record { sfits = c.from.type_inv } in
    blue_is c.args.y c.args.cb c.blue_rest.result c.small_whole.result c.blue_total.result c.from.result c.level.result
    (simp to_z-of_z at c.blue_rest.ensures.value) (simp to_z-of_z at c.small_whole.ensures.value) (simp to_z-of_z at c.blue_total.ensures) (simp to_z-of_z at c.from.ensures) (simp to_z-of_z at c.level.ensures)
