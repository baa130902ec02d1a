use Rattle.std.proofs.Common.{length}
use Rattle.gfx_report.specs.StateBytes.{colours_bytes}
use Rattle.gfx_report.proofs.TookLemmas.{Owes}
use Rattle.gfx_report.proofs.colours.add_colours.Given as goal

abbrev pub invariant-pieces : goal.invariant-pieces
invariant-pieces l = Owes l.fn.hasher l.hasher (colours_bytes l.fn.pixels) (colours_bytes l.rest)

abbrev pub decreases-pieces : goal.decreases-pieces
decreases-pieces l = length l.rest
