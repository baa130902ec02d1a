use Rattle.std.proofs.Common.{FitsSigned, w32, ◌∙◌, ap}
use Rattle.std.specs.Int.{int_shr}
use Rattle.std.proofs.lemmas.Int.{to_z-of_z}
use Rattle.gfx_quant.proofs.Floors.{chroma_red_total}
use Rattle.gfx_quant.proofs.colour.chroma_red_of.Goals as goal

pub returns-clause-value : goal.returns-clause-value
returns-clause-value c =
    let blue : FitsSigned w32 c.from_green-blue.result = record { sfits = c.from_green-blue.type_inv } in
    let red : FitsSigned w32 c.from_green-red.result = record { sfits = c.from_green-red.type_inv } in
    let total : FitsSigned w32 c.chroma_red_part.result = record { sfits = c.chroma_red_part.type_inv } in
    let chroma : FitsSigned w32 c.sample.result = record { sfits = c.sample.type_inv } in
    rw (to_z-of_z w32 c.sample.result chroma)
    (simp to_z-of_z at c.sample.ensures.value
    ∙ ap (λ z. int_shr z 11) (chroma_red_total c.args.pixel.b c.args.pixel.g c.args.pixel.r c.from_green-red.result c.from_green-blue.result c.chroma_red_part.result
    c.from_green-blue.ensures.value c.from_green-red.ensures.value (simp to_z-of_z at c.chroma_red_part.ensures)))
