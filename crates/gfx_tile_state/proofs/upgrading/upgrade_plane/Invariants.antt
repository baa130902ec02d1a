use Rattle.std.proofs.Common.{ℤ, Bool, List, true}
use Rattle.gfx_dwt.specs.Ranges.{AllCoefficients}
use Rattle.gfx_tile_state.specs.Entries.{Upgraded, pass_of}
use Rattle.gfx_tile_state.proofs.Bands.{front}
use Rattle.gfx_tile_state.proofs.upgrading.upgrade_plane.Given as goal

abbrev pub invariant-loop-index : goal.invariant-loop-index
invariant-loop-index l =
    AllCoefficients l.plane
    × ((sums : List ℤ) (srl raw : List Bool) → Upgraded (pass_of l.transform l.before l.behind sums srl raw) 0 l.initial.plane true l.initial.readers
    → Upgraded (pass_of l.transform l.before l.behind sums srl raw) (front l.transform l.index) l.plane l.fits l.readers)
