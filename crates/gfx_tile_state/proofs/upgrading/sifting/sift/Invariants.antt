use Rattle.std.proofs.Common.{◌≤◌, ◌-◌}
use Rattle.gfx_tile_state.specs.Sifting.{Listed}
use Rattle.gfx_tile_state.proofs.upgrading.sifting.sift.Given as goal

abbrev pub invariant-fronts : goal.invariant-fronts
invariant-fronts l = record {
  begun : l.from ≤ l.place;
  order : l.place ≤ l.to;
  listed : Listed l.plane l.from l.place l.count l.noughts l.others;
}

abbrev pub decreases-fronts : goal.decreases-fronts
decreases-fronts l = l.to - l.place
