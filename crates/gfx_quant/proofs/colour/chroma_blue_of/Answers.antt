use Rattle.std.proofs.Common.{FitsSigned, w32, arith}
use Rattle.std.proofs.lemmas.Int.{ints, to_z-of_z}
use Rattle.gfx_quant.proofs.Bounds.{sample_of}
use Rattle.gfx_quant.proofs.Floors.{chroma_blue_is}
use Rattle.gfx_quant.proofs.colour.chroma_blue_of.Goals as goal

pub returns-clause-value : goal.returns-clause-value
returns-clause-value c =
    let blue : FitsSigned w32 c.from_green-blue.result = record { sfits = c.from_green-blue.type_inv } in
    let red : FitsSigned w32 c.from_green-red.result = record { sfits = c.from_green-red.type_inv } in
    let total : FitsSigned w32 c.chroma_blue_part.result = record { sfits = c.chroma_blue_part.type_inv } in
    let part : FitsSigned w32 c.sample.result = record { sfits = c.sample.type_inv } in
    let chroma : FitsSigned w32 c.with_blue.result = record { sfits = c.with_blue.type_inv } in
    rw (to_z-of_z w32 c.with_blue.result chroma)
    (chroma_blue_is c.args.pixel.b c.args.pixel.g c.args.pixel.r c.from_green-red.result c.from_green-blue.result c.chroma_blue_part.result c.sample.result c.with_blue.result
    c.from_green-blue.ensures.value c.from_green-red.ensures.value (simp to_z-of_z at c.chroma_blue_part.ensures) (simp to_z-of_z at c.sample.ensures.value) (simp to_z-of_z at c.with_blue.ensures))

pub returns-clause-small : goal.returns-clause-small
returns-clause-small c =
    sample_of _ _ (returns-clause-value c) (record { low = omega (arith, ints); high = omega (arith, ints) })
