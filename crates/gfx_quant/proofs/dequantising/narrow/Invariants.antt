use Rattle.gfx_quant.specs.Coefficient.{coefficient_of}
use Rattle.gfx_quant.specs.Planes.{MapsBetween}
use Rattle.gfx_quant.proofs.dequantising.narrow.Given as goal

abbrev pub invariant-loop-place : goal.invariant-loop-place
invariant-loop-place l = MapsBetween (λ v. coefficient_of v l.position) l.from l.place l.values l.initial.out l.out
