use Rattle.std.proofs.Common.{◌≡◌}
use Rattle.gfx_import.specs.Imported.{imported}
use Rattle.gfx_planner.proofs.BitmapStarts.{plan_to}
use Rattle.gfx_planner.proofs.importing.keep_imported.Given as goal

abbrev pub invariant-keys : goal.invariant-keys
invariant-keys l = l.slots ≡ plan_to l.place (imported l.server l.client l.small) l.small
