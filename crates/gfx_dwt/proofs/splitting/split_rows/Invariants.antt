use Rattle.std.proofs.Common.{◌≡◌, ℕ, ◌+◌, ◌<◌}
use Rattle.gfx_dwt.specs.Samples.{cell}
use Rattle.gfx_dwt.specs.Splitting.{high_half, low_half}
use Rattle.gfx_dwt.proofs.splitting.split_rows.Given as goal

abbrev pub invariant-loop-r : goal.invariant-loop-r
invariant-loop-r l = record {
  lows : (i c : ℕ) → i < l.r → c < l.low_size → cell l.low_size l.low i c ≡ low_half l.transform l.level (cell (l.low_size + l.high_size) l.source i) c;
  highs : (i c : ℕ) → i < l.r → c < l.high_size → cell l.high_size l.high i c ≡ high_half l.transform l.level (cell (l.low_size + l.high_size) l.source i) c;
}
