use Rattle.gfx_dwt.specs.declared.layout.Band.TheVariants.{Ll3}
use Rattle.gfx_quant.specs.Coefficient.{capped, nearest}
use Rattle.gfx_quant.specs.Planes.{MapsBetween}
use Rattle.gfx_quant.proofs.quantising.round_up_places.Given as goal

abbrev pub invariant-loop-place : goal.invariant-loop-place
invariant-loop-place l = MapsBetween (λ c. capped (nearest Ll3 c l.base) l.base) l.from l.place l.values l.initial.out l.out
