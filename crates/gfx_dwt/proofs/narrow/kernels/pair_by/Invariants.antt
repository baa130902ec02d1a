use Rattle.std.proofs.Common.{◌≡◌, ℕ, ◌<◌}
use Rattle.gfx_dwt.specs.Lifting.{even_of, odd_of}
use Rattle.gfx_dwt.specs.Ranges.{at}
use Rattle.gfx_dwt.proofs.narrow.kernels.pair_by.Given as goal

abbrev pub invariant-loop-k : goal.invariant-loop-k
invariant-loop-k g l = record {
  evens : (j : ℕ) → j < l.k → at l.evens j ≡ even_of g.L.NarrowLifting.transform (at l.low j) (at l.high j) (at l.next j);
  odds : (j : ℕ) → j < l.k → at l.odds j ≡ odd_of g.L.NarrowLifting.transform (at l.high j) (at l.above j) (even_of g.L.NarrowLifting.transform (at l.low j) (at l.high j) (at l.next j));
}
