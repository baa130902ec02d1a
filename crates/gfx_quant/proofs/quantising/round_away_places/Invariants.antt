use Rattle.gfx_dwt.specs.declared.layout.Band.TheVariants.{Hl1}
use Rattle.gfx_quant.specs.Coefficient.{capped, nearest}
use Rattle.gfx_quant.specs.Planes.{MapsBetween}
use Rattle.gfx_quant.proofs.quantising.round_away_places.Given as goal

abbrev pub invariant-loop-place : goal.invariant-loop-place
invariant-loop-place l = MapsBetween (λ c. capped (nearest Hl1 c l.base) l.base) l.from l.place l.values l.initial.out l.out
