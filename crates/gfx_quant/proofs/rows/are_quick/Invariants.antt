use Rattle.std.proofs.Common.{ℕ, ◌+◌, ◌<◌, IsTrue}
use Rattle.gfx_dwt.specs.Ranges.{Within, at}
use Rattle.gfx_quant.proofs.rows.are_quick.Given as goal

abbrev pub invariant-loop-place : goal.invariant-loop-place
invariant-loop-place l = IsTrue l.quick → (k : ℕ) → k < l.place → Within 8191 (at l.plane (l.from + k))
