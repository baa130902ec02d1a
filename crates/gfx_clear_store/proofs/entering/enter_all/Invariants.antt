use Rattle.std.proofs.Common.{◌≡◌, length}
use Rattle.gfx_clear_store.specs.Index.{rank, IsIndex}
use Rattle.gfx_clear_store.proofs.Entered.{entered}
use Rattle.gfx_clear_store.proofs.entering.enter_all.Given as goal

abbrev pub invariant-steps : goal.invariant-steps
invariant-steps g l = record {
  latest : length l.index.latest.items ≡ l.count;
  earlier : length l.index.earlier.items ≡ l.count;
  index : IsIndex (rank l.count l.cursor) (entered l.count l.cursor l.slots l.step) l.index.latest.items l.index.earlier.items;
}
