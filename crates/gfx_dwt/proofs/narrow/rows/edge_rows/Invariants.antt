use Rattle.std.proofs.Common.{◌≡◌, ℕ, ◌-◌, ◌<◌}
use Rattle.gfx_dwt.specs.Joining.{edged}
use Rattle.gfx_dwt.specs.Samples.{cell}
use Rattle.gfx_dwt.proofs.narrow.rows.edge_rows.Given as goal

abbrev pub invariant-loop-r : goal.invariant-loop-r
invariant-loop-r l = (i k : ℕ) → i < l.r → k < l.room → cell l.room l.edges i k ≡ edged l.transform l.level (cell l.high_size l.high i) (k - 1)
