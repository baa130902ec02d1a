use Rattle.gfx_tile_state.specs.Sifting.{Listed}
use Rattle.gfx_tile_state.proofs.upgrading.sifting.sift_places.Given as goal

abbrev pub invariant-loop-at : goal.invariant-loop-at
invariant-loop-at l = Listed l.plane l.from l.at l.count l.noughts l.others
