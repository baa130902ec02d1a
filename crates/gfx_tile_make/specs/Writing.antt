-- How far a writer of an upgrade has come.
use Rattle.std.specs.Prelude.{ℕ, ◌-◌, ◌<◌, ◌≤◌, ◌≡◌, ℤ, List, [], ◌++◌, length, take}
use Rattle.gfx_srl.specs.Code.{Pair}
use Rattle.gfx_srl.specs.Steps.{HasWritten}
use Rattle.gfx_dwt.specs.declared.layout.Transform.{Transform}
use Rattle.gfx_dwt.specs.declared.layout.Band.{Band}
use Rattle.gfx_dwt.specs.Ranges.{at}
use Rattle.gfx_quant.specs.Coefficient.{truncated}
use Rattle.gfx_tile_state.specs.Entries.{Pass, Way, way, way_at, is_low, coded, raw, pass_of, pairs_from, raw_from}
use Rattle.gfx_tile_make.specs.declared.entry.Writers.{Writers}
use Rattle.gfx_tile_make.specs.Planes.{by_band}
use Rattle.gfx_tile_make.specs.Levels.{positions_at, summed_at}
use Rattle.gfx_tile_make.specs.Upgrade.{gained}

-- whatever was written before, an entry of a place of this way is written behind it
pub record WritesEntry (way : Way) (width : ℕ) (entry : ℤ) (old new : Writers) : Type 0 where
  pub coded_on : (pairs : List Pair) → HasWritten pairs old.srl → HasWritten (pairs ++ coded way width entry) new.srl
  pub raw_on : new.bits ≡ old.bits ++ raw way width entry

-- the entries before a place were written
pub record HasPassed (pass : Pass) (entries : List ℤ) (place : ℕ) (writers : Writers) : Type 0 where
  pub coded_are : HasWritten (pairs_from pass 0 (take place entries)) writers.srl
  pub raw_are : writers.bits ≡ raw_from pass 0 (take place entries)

-- the entries of some places, all of one band, are what their values gain
pub record AreDue (pass : Pass) (entries values : List ℤ) (band : Band) (before behind from to : ℕ) : Type 0 where
  pub all : length entries ≡ 4096
  pub falls : (k : ℕ) → from ≤ k → k < to → pass.falls k ≡ before - behind
  pub ways : (k : ℕ) → from ≤ k → k < to → way_at pass k ≡ way (before - behind) (is_low band) (truncated band (at values k) before)
  pub gains : (k : ℕ) → from ≤ k → k < to → at entries k ≡ gained band (at values k) before behind

-- the upgrade of a component of these values from one level to another, by what they leave out
abbrev pub upgrade_by : Transform → List ℕ → List ℕ → List ℕ → List ℤ → Pass
upgrade_by t base before behind values = pass_of t (positions_at base before) (positions_at base behind) (by_band t (summed_at base before) values) [] []
