use Rattle.std.proofs.Common.{◌≤◌, ◌-◌, drop}
use Rattle.std.specs.List.{flat_map}
use Rattle.gfx_base.specs.Stream.{change}
use Rattle.gfx_base.proofs.Streams.{Sent}
use Rattle.gfx_surface.specs.Picture.{row_of}
use Rattle.gfx_report.specs.Texts.{pixel_digits}
use Rattle.gfx_report.proofs.row.write_runs.Given as goal

-- the first pixels are written
abbrev pub invariant-runs : goal.invariant-runs
invariant-runs g l = record {
  within : l.x ≤ l.width;
  sent : Sent (change (g.O.Sink.faults l.fn.out) (g.O.Sink.faults l.out) (g.O.Sink.held l.fn.out) (g.O.Sink.held l.out))
      (flat_map pixel_digits (row_of l.fn.surface l.fn.y)) (flat_map pixel_digits (drop l.x (row_of l.fn.surface l.fn.y)));
}

abbrev pub decreases-runs : goal.decreases-runs
decreases-runs g l = l.width - l.x
