use Rattle.std.proofs.Common.{◌≡◌, ℕ, ◌-◌, ◌*◌, ◌<◌, ◌^◌}
use Rattle.gfx_dwt.specs.Lifting.{low_of}
use Rattle.gfx_dwt.specs.Ranges.{Within, at}
use Rattle.gfx_dwt.specs.Splitting.{differed}
use Rattle.gfx_dwt.proofs.halves.first_places.Given as goal

abbrev pub invariant-loop-k : goal.invariant-loop-k
invariant-loop-k g l = record {
  even : l.even ≡ at l.line (2 * l.k);
  last : l.before ≡ differed g.L.Lifting.transform (at l.line) (l.k - 1);
  small : Within (2 ^ 28) l.before;
  lows : (j : ℕ) → j < l.k → at l.low j ≡ low_of g.L.Lifting.transform (at l.line (2 * j)) (differed g.L.Lifting.transform (at l.line) (j - 1)) (differed g.L.Lifting.transform (at l.line) j);
  highs : (j : ℕ) → j < l.k → at l.high j ≡ differed g.L.Lifting.transform (at l.line) j;
}
