use Rattle.std.proofs.Common.{◌≤◌, ◌-◌, drop}
use Rattle.gfx_surface.specs.Picture.{row_of}
use Rattle.gfx_report.specs.StateBytes.{pixels_bytes}
use Rattle.gfx_report.proofs.TookLemmas.{Owes}
use Rattle.gfx_report.proofs.hashing.add_row.Given as goal

-- the pixels from here on are still due
abbrev pub invariant-runs : goal.invariant-runs
invariant-runs l = record {
  within : l.x ≤ l.width;
  owes : Owes l.fn.hasher l.hasher (pixels_bytes (row_of l.fn.surface l.fn.y)) (pixels_bytes (drop l.x (row_of l.fn.surface l.fn.y)));
}

abbrev pub decreases-runs : goal.decreases-runs
decreases-runs l = l.width - l.x
