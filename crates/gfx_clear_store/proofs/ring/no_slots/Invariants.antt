use Rattle.std.proofs.Common.{◌≡◌, replicate, None}
use Rattle.std.specs.Vec.{vec_capacity}
use Rattle.gfx_clear_store.proofs.ring.no_slots.Given as goal

abbrev pub invariant-loop : goal.invariant-loop
invariant-loop g l = record {
  items : l.slots.items ≡ replicate l.counter None;
  room : vec_capacity l.slots ≡ l.count;
}
