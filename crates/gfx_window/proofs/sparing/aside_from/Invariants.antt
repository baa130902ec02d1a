use Rattle.std.proofs.Common.{◌≡◌, ◌≤◌, true, drop, length}
use Rattle.std.specs.List.{list_all}
use Rattle.gfx_window.specs.Superseded.{stands_aside}
use Rattle.gfx_window.proofs.sparing.aside_from.Given as goal

abbrev pub invariant-items : goal.invariant-items
invariant-items l = (l.from ≤ length l.items) × (list_all (stands_aside l.script) (drop l.from l.items) ≡ true)

abbrev pub decreases-items : goal.decreases-items
decreases-items l = l.from
