use Rattle.std.proofs.Common.{◌≡◌, ℕ, ◌<◌}
use Rattle.gfx_dwt.specs.declared.layout.Transform.TheVariants.{Plain}
use Rattle.gfx_dwt.specs.Lifting.{odd_of}
use Rattle.gfx_dwt.specs.Ranges.{at}
use Rattle.gfx_dwt.proofs.Spans.{Spans}
use Rattle.gfx_dwt.proofs.narrow.flat.odds_of.Given as goal

abbrev pub invariant-loop-k : goal.invariant-loop-k
invariant-loop-k l = record {
  each : (j : ℕ) → j < l.k → at l.out j ≡ odd_of Plain (at l.high j) (at l.left j) (at l.right j);
  span : Spans l.out l.k l.lowest l.highest;
}
