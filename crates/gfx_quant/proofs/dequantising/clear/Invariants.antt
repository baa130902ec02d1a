use Rattle.std.proofs.Common.{pos}
use Rattle.gfx_quant.specs.Planes.{MapsBetween}
use Rattle.gfx_quant.proofs.dequantising.clear.Given as goal

abbrev pub invariant-loop-place : goal.invariant-loop-place
invariant-loop-place l = MapsBetween (λ _. pos 0) l.from l.place l.initial.out l.initial.out l.out
