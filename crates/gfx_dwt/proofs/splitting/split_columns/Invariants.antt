use Rattle.std.proofs.Common.{◌≡◌, ℕ, ◌<◌}
use Rattle.gfx_dwt.specs.Samples.{cell, column}
use Rattle.gfx_dwt.specs.Splitting.{low_half}
use Rattle.gfx_dwt.proofs.splitting.split_columns.Given as goal

abbrev pub invariant-lows : goal.invariant-lows
invariant-lows l = (i c : ℕ) → i < l.r → c < l.width → cell l.width l.low i c ≡ low_half l.transform l.level (column l.width l.source c) i
