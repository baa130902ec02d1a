use Rattle.std.proofs.Common.{◌≡◌, ℕ, ◌-◌, ◌<◌}
use Rattle.gfx_dwt.specs.Ranges.{at}
use Rattle.gfx_dwt.specs.Samples.{cell, column}
use Rattle.gfx_dwt.specs.Splitting.{high_half, low_half}
use Rattle.gfx_dwt.proofs.splitting.split_pairs.Given as goal

abbrev pub invariant-pairs : goal.invariant-pairs
invariant-pairs l = record {
  known : (c : ℕ) → c < l.width → at l.known c ≡ high_half l.transform l.level (column l.width l.source c) (l.r - 1);
  lows : (i c : ℕ) → i < l.r → c < l.width → cell l.width l.low i c ≡ low_half l.transform l.level (column l.width l.source c) i;
  highs : (i c : ℕ) → i < l.r → c < l.width → cell l.width l.high i c ≡ high_half l.transform l.level (column l.width l.source c) i;
}
