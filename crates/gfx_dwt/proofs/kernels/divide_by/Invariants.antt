use Rattle.std.proofs.Common.{◌≡◌, ℕ, ◌<◌, ◌≤◌}
use Rattle.gfx_dwt.specs.Lifting.{high_of, low_of}
use Rattle.gfx_dwt.specs.Ranges.{at}
use Rattle.gfx_dwt.proofs.kernels.divide_by.Given as goal

abbrev pub invariant-loop-k : goal.invariant-loop-k
invariant-loop-k g l = record {
  kept : (j : ℕ) → l.k ≤ j → at l.known j ≡ at l.initial.known j;
  known : (j : ℕ) → j < l.k → at l.known j ≡ high_of g.L.Lifting.transform (at l.odd j) (at l.even j) (at l.next j);
  highs : (j : ℕ) → j < l.k → at l.high j ≡ high_of g.L.Lifting.transform (at l.odd j) (at l.even j) (at l.next j);
  lows : (j : ℕ) → j < l.k → at l.low j ≡ low_of g.L.Lifting.transform (at l.even j) (at l.initial.known j) (high_of g.L.Lifting.transform (at l.odd j) (at l.even j) (at l.next j));
}
