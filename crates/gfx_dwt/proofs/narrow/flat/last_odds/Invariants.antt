use Rattle.std.proofs.Common.{◌≡◌, ℕ, ◌+◌, ◌-◌, ◌<◌}
use Rattle.gfx_dwt.specs.declared.layout.Transform.TheVariants.{Plain}
use Rattle.gfx_dwt.specs.Lifting.{odd_of}
use Rattle.gfx_dwt.specs.Ranges.{Within}
use Rattle.gfx_dwt.specs.Samples.{cell}
use Rattle.gfx_dwt.proofs.narrow.flat.last_odds.Given as goal

abbrev pub invariant-loop-r : goal.invariant-loop-r
invariant-loop-r l = record {
  last : (i : ℕ) → i < l.r → cell l.size l.odds i (l.size - 1) ≡ odd_of Plain (cell l.size l.high i (l.size - 1)) (cell l.size l.evens i (l.size - 1)) (cell l.size l.evens i (l.size - 1));
  within : (i : ℕ) → i < l.r → Within l.most (cell l.size l.odds i (l.size - 1));
  others : (i k : ℕ) → k + 1 < l.size → cell l.size l.odds i k ≡ cell l.size l.initial.odds i k;
}
