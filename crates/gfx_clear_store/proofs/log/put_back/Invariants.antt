use Rattle.std.proofs.Common.{◌≡◌, length}
use Rattle.std.specs.Vec.{vec_capacity}
use Rattle.gfx_clear_store.specs.Undoing.{undone, AreWithin}
use Rattle.gfx_clear_store.proofs.log.put_back.Given as goal

abbrev pub invariant-entries : goal.invariant-entries
invariant-entries g l = record {
  same : undone l.entries.items l.slots ≡ undone l.fn.entries.items l.fn.slots;
  within : AreWithin (length l.slots) l.entries.items;
  room : vec_capacity l.entries ≡ vec_capacity l.fn.entries;
}

abbrev pub decreases-entries : goal.decreases-entries
decreases-entries g l = goal.left-entries g l
