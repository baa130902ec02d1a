use Rattle.std.proofs.Common.{◌≡◌, ◌++◌}
use Rattle.gfx_import.specs.Entries.{IsKept}
use Rattle.gfx_import.proofs.file.index.Given as goal

abbrev pub invariant-entries : goal.invariant-entries
invariant-entries l = record {
  so_far : l.kept ++ l.one-iterator.rest.items ≡ l.initial.one-iterator.rest.items;
  held : IsKept l.kept;
}
