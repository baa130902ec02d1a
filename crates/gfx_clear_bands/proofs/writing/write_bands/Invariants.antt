use Rattle.std.proofs.Common.{◌≤◌, ◌-◌}
use Rattle.gfx_clear_bands.specs.Writing.{output}
use Rattle.gfx_clear_bands.proofs.Outputs.{BandsLeft}
use Rattle.gfx_clear_bands.proofs.writing.write_bands.Given as goal

abbrev pub invariant-bands : goal.invariant-bands
invariant-bands l = record {
  within : l.top ≤ l.height;
  left : BandsLeft l.width l.height l.pixels l.top (output l.fn.store l.fn.out) (output l.store l.out);
}

abbrev pub decreases-bands : goal.decreases-bands
decreases-bands l = l.height - l.top
