use Rattle.std.proofs.Common.{◌≤◌, ◌-◌, ℕ, Bool, List, false, ◌&&◌, take}
use Rattle.gfx_dwt.specs.Ranges.{AllCoefficients}
use Rattle.gfx_tile_state.specs.Entries.{Pass, AreAlike}
use Rattle.gfx_tile_state.specs.Sifting.{Sifted}
use Rattle.gfx_tile_state.proofs.upgrading.others.pass_others_by_fours.Given as goal

abbrev pub invariant-fours : goal.invariant-fours
invariant-fours l = record {
  most : l.index ≤ l.count;
  coefficients : AllCoefficients l.plane;
  sifted : (pass : Pass) (from to : ℕ) (noughts : List ℕ) (fits : Bool) → from ≤ to → to ≤ 4096 → AreAlike pass from to l.n l.position false
      → Sifted pass from to noughts (take l.count l.others) 0 0 l.initial.plane fits l.initial.readers
      → Sifted pass from to noughts (take l.count l.others) 0 l.index l.plane (fits && l.fits) l.readers;
}

abbrev pub decreases-fours : goal.decreases-fours
decreases-fours l = l.count - l.index
