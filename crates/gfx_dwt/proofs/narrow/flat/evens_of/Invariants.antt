use Rattle.std.proofs.Common.{◌≡◌, ℕ, ◌<◌}
use Rattle.gfx_dwt.specs.declared.layout.Transform.TheVariants.{Plain}
use Rattle.gfx_dwt.specs.Lifting.{even_of}
use Rattle.gfx_dwt.specs.Ranges.{at}
use Rattle.gfx_dwt.proofs.Spans.{Spans}
use Rattle.gfx_dwt.proofs.narrow.flat.evens_of.Given as goal

abbrev pub invariant-loop-k : goal.invariant-loop-k
invariant-loop-k l = record {
  each : (j : ℕ) → j < l.k → at l.out j ≡ even_of Plain (at l.low j) (at l.before j) (at l.here j);
  span : Spans l.out l.k l.lowest l.highest;
}
