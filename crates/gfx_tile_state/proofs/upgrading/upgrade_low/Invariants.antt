use Rattle.std.proofs.Common.{◌≡◌, Bool, true, ◌&&◌, length}
use Rattle.gfx_dwt.specs.Ranges.{AllCoefficients}
use Rattle.gfx_tile_state.specs.Entries.{Pass, AreAlike, Upgraded}
use Rattle.gfx_tile_state.proofs.upgrading.upgrade_low.Given as goal

abbrev pub invariant-loop-place : goal.invariant-loop-place
invariant-loop-place l =
    (length l.plane ≡ 4096)
    × AllCoefficients l.plane
    × ((pass : Pass) (fits : Bool) → AreAlike pass l.from l.to l.n l.position true → Upgraded pass l.from l.initial.plane fits l.initial.readers
    → Upgraded pass l.place l.plane (fits && l.fits) l.readers)
