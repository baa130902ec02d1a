use Rattle.std.proofs.Common.{◌≡◌, ℕ, ◌<◌}
use Rattle.gfx_dwt.specs.declared.layout.Transform.TheVariants.{Plain}
use Rattle.gfx_dwt.specs.Lifting.{even_of}
use Rattle.gfx_dwt.specs.Ranges.{Within}
use Rattle.gfx_dwt.specs.Samples.{cell}
use Rattle.gfx_dwt.proofs.narrow.flat.first_evens.Given as goal

abbrev pub invariant-loop-r : goal.invariant-loop-r
invariant-loop-r l = record {
  first : (i : ℕ) → i < l.r → cell l.size l.evens i 0 ≡ even_of Plain (cell l.size l.low i 0) (cell l.size l.high i 0) (cell l.size l.high i 0);
  within : (i : ℕ) → i < l.r → Within l.most (cell l.size l.evens i 0);
  others : (i k : ℕ) → 0 < k → k < l.size → cell l.size l.evens i k ≡ cell l.size l.initial.evens i k;
}
