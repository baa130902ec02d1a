use Rattle.std.proofs.Common.{◌≡◌, ◌≤◌, ℕ, Bool, List, false, ◌&&◌, length, take}
use Rattle.gfx_dwt.specs.Ranges.{AllCoefficients}
use Rattle.gfx_tile_state.specs.Entries.{Pass, AreAlike}
use Rattle.gfx_tile_state.specs.Sifting.{Sifted}
use Rattle.gfx_tile_state.proofs.upgrading.others.pass_others.Given as goal

abbrev pub invariant-loop-index : goal.invariant-loop-index
invariant-loop-index l = record {
  long : length l.plane ≡ 4096;
  coefficients : AllCoefficients l.plane;
  sifted : (pass : Pass) (start to : ℕ) (noughts : List ℕ) (fits : Bool) → start ≤ to → to ≤ 4096 → AreAlike pass start to l.n l.position false
      → Sifted pass start to noughts (take l.count l.others) 0 l.from l.initial.plane fits l.initial.readers
      → Sifted pass start to noughts (take l.count l.others) 0 l.index l.plane (fits && l.fits) l.readers;
}
