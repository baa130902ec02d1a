use Rattle.gfx_quant.specs.Coefficient.{coefficient_of}
use Rattle.gfx_quant.specs.Quant.{value_of}
use Rattle.gfx_quant.proofs.InBands.{MapsFirst}
use Rattle.gfx_quant.proofs.dequantising.narrow_plane.Given as goal

abbrev pub invariant-loop-index : goal.invariant-loop-index
invariant-loop-index l = MapsFirst l.index l.transform (λ band v. coefficient_of v (value_of l.positions band)) l.plane l.initial.out l.out
