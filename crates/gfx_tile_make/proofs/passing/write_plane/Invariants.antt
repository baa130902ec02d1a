use Rattle.std.proofs.Common.{ℕ, List}
use Rattle.gfx_tile_state.proofs.Bands.{front}
use Rattle.gfx_tile_make.specs.Upgrade.{entries_of}
use Rattle.gfx_tile_make.specs.Writing.{HasPassed, upgrade_by}
use Rattle.gfx_tile_make.proofs.passing.write_plane.Given as goal

abbrev pub invariant-loop-index : goal.invariant-loop-index
invariant-loop-index l =
    (base : List ℕ) → HasPassed (upgrade_by l.transform base l.before l.behind l.values) (entries_of l.transform l.before l.behind l.values) 0 l.initial.writers
    → HasPassed (upgrade_by l.transform base l.before l.behind l.values) (entries_of l.transform l.before l.behind l.values) (front l.transform l.index) l.writers
