use Rattle.std.proofs.Common.{length}
use Rattle.gfx_report.specs.StateBytes.{surface_bytes, surfaces_bytes}
use Rattle.gfx_report.proofs.Entries.{from_on}
use Rattle.gfx_report.proofs.TookLemmas.{Owes}
use Rattle.gfx_report.proofs.StateEntries.{bytes_from}
use Rattle.gfx_report.proofs.state.add_surfaces.Given as goal

abbrev pub invariant-surfaces : goal.invariant-surfaces
invariant-surfaces l =
    Owes l.fn.hasher l.hasher (surfaces_bytes l.fn.surfaces.shown.surfaces) (bytes_from surface_bytes l.fn.surfaces.shown.surfaces l.from)

abbrev pub decreases-surfaces : goal.decreases-surfaces
decreases-surfaces l = length (from_on l.fn.surfaces.shown.surfaces l.from)
