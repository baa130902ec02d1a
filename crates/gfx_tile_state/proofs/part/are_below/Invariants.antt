use Rattle.std.proofs.Common.{ℕ, ◌<◌, ◌≤◌}
use Rattle.std.specs.Prelude.{MatchBool, slice_index}
use Rattle.gfx_tile_state.proofs.part.are_below.Given as goal

abbrev pub invariant-loop-index : goal.invariant-loop-index
invariant-loop-index l =
    MatchBool l.below ((k : ℕ) → k < l.index → slice_index l.low k ≤ slice_index l.high k)
    ((k : ℕ) × (k < l.index) × (slice_index l.high k < slice_index l.low k))
