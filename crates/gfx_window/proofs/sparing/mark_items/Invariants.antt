use Rattle.std.proofs.Common.{◌≡◌, take}
use Rattle.gfx_window.specs.Sparing.{items_marked}
use Rattle.gfx_window.proofs.sparing.mark_items.Given as goal

abbrev pub invariant-items : goal.invariant-items
invariant-items l = l.marks ≡ items_marked l.script l.initial.marks (take l.item-index l.items)
