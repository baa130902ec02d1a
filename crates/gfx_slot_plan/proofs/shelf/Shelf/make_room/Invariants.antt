use Rattle.std.proofs.Common.{◌≡◌, length}
use Rattle.std.specs.Vec.{vec_len, vec_capacity}
use Rattle.gfx_slot_plan.proofs.Dropping.{Dropping}
use Rattle.gfx_slot_plan.proofs.shelf.Shelf.make_room.Given as goal

-- so many of those behind the first are left
abbrev pub invariant-drops : goal.invariant-drops
invariant-drops l = record {
  dropping : Dropping l.initial.self.places.entries l.self.places.entries l.initial.self.pool.last l.most l.bytes l.initial.dropped.items l.dropped.items l.self.pool l.self.bytes (vec_len l.dropped) (vec_capacity l.dropped);
  cap : l.self.places.cap ≡ l.initial.self.places.cap;
  last : l.self.pool.last ≡ l.initial.self.pool.last;
}

abbrev pub decreases-drops : goal.decreases-drops
decreases-drops l = length l.self.places.entries
