use Rattle.std.proofs.Common.{◌≡◌, drop}
use Rattle.gfx_window.specs.Sparing.{items_marked, surely_sent}
use Rattle.gfx_window.proofs.sparing.mark_surely_sent.Given as goal

abbrev pub invariant-older : goal.invariant-older
invariant-older l =
    items_marked l.script l.marks (surely_sent l.script (drop l.place l.older) l.newest) ≡ items_marked l.script l.initial.marks (surely_sent l.script l.older l.newest)
