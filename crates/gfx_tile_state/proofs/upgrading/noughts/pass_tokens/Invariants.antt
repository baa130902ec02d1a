use Rattle.std.proofs.Common.{◌≡◌, ◌<◌, ◌≤◌, ◌-◌, ℕ, Bool, List, true, false, ◌&&◌, take}
use Rattle.gfx_dwt.specs.Ranges.{AllCoefficients}
use Rattle.gfx_srl.specs.declared.value.TheConstants.{MOST_AHEAD}
use Rattle.gfx_srl.specs.Steps.{BeginsToken}
use Rattle.gfx_tile_state.specs.Entries.{Pass, AreAlike}
use Rattle.gfx_tile_state.specs.Sifting.{Sifted}
use Rattle.gfx_tile_state.proofs.upgrading.noughts.pass_tokens.Given as goal

abbrev pub invariant-tokens : goal.invariant-tokens
invariant-tokens l = record {
  most : l.at ≤ l.count;
  begins : l.begins ≡ true → l.at < l.count → (l.n ≤ MOST_AHEAD) × BeginsToken l.readers.srl;
  coefficients : AllCoefficients l.plane;
  sifted : (pass : Pass) (from to : ℕ) (others : List ℕ) (others_done : ℕ) (fits : Bool) → from ≤ to → to ≤ 4096 → AreAlike pass from to l.n l.position false
      → Sifted pass from to (take l.count l.noughts) others l.initial.at others_done l.initial.plane fits l.initial.readers
      → Sifted pass from to (take l.count l.noughts) others l.at others_done l.plane (fits && l.fits) l.readers;
}

abbrev pub decreases-tokens : goal.decreases-tokens
decreases-tokens l = l.count - l.at
