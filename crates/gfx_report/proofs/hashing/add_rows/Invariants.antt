use Rattle.std.proofs.Common.{◌*◌, drop}
use Rattle.gfx_report.specs.StateBytes.{pixels_bytes}
use Rattle.gfx_report.proofs.TookLemmas.{Owes}
use Rattle.gfx_report.proofs.hashing.add_rows.Given as goal

-- the rows from here on are still due
abbrev pub invariant-rows : goal.invariant-rows
invariant-rows l =
    Owes l.fn.hasher l.hasher (pixels_bytes l.fn.surface.pixels) (pixels_bytes (drop (l.y * l.fn.surface.width) l.fn.surface.pixels))
