use Rattle.std.proofs.Common.{◌≡◌, ◌≢◌, ℕ, ◌<◌}
use Rattle.std.specs.Prelude.{MatchBool}
use Rattle.gfx_dwt.specs.Ranges.{at}
use Rattle.gfx_dwt.proofs.noughts.are_same.Given as goal

abbrev pub invariant-loop-place : goal.invariant-loop-place
invariant-loop-place l = MatchBool l.same ((k : ℕ) → k < l.place → at l.block k ≡ l.one) ((k : ℕ) × (k < l.place) × (at l.block k ≢ l.one))
