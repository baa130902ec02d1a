use Rattle.std.proofs.Common.{pos, ◌^◌}
use Rattle.std.specs.Prelude.{int_div}
use Rattle.gfx_quant.specs.Planes.{MapsBetween}
use Rattle.gfx_quant.proofs.quantising.cut_places.Given as goal

abbrev pub invariant-loop-place : goal.invariant-loop-place
invariant-loop-place l = MapsBetween (λ v. int_div v (pos (2 ^ l.bits))) l.from l.place l.values l.initial.out l.out
