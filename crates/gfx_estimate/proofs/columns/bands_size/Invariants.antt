use Rattle.std.proofs.Common.{◌-◌, ◌*◌, ◌^◌, ◌≤◌}
use Rattle.gfx_estimate.specs.Bands.{no_columns}
use Rattle.gfx_estimate.proofs.Meeting.{BandsLeft}
use Rattle.gfx_estimate.proofs.columns.bands_size.Given as goal

abbrev pub invariant-bands : goal.invariant-bands
invariant-bands l = record {
  top : l.top ≤ l.picture.height;
  within : l.columns.bytes ≤ 2 ^ 24 * l.top;
  left : BandsLeft l.picture l.top no_columns l.columns;
}

abbrev pub decreases-bands : goal.decreases-bands
decreases-bands l = l.picture.height - l.top
