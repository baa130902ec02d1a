use Rattle.std.proofs.Common.{◌<◌, length}
use Rattle.gfx_window.proofs.index.Index.new.Given as goal

abbrev pub invariant-lists : goal.invariant-lists
invariant-lists l = 0 < length l.lists.items
