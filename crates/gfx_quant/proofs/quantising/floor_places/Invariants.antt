use Rattle.std.specs.Int.{int_shr}
use Rattle.gfx_quant.specs.Planes.{MapsBetween}
use Rattle.gfx_quant.proofs.quantising.floor_places.Given as goal

abbrev pub invariant-loop-place : goal.invariant-loop-place
invariant-loop-place l = MapsBetween (λ v. int_shr v l.bits) l.from l.place l.values l.initial.out l.out
