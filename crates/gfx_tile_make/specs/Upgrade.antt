-- What raises a tile from a level to the next ([MS-RDPEGFX], the progressive codec's upgrade tiles).
use Rattle.std.specs.Prelude.{ℕ, ◌-◌, ◌^◌, ℤ, pos, ◌-ℤ◌, ◌*ℤ◌, Bool, List, []}
use Rattle.gfx_bits.specs.Bits.{IsPadded}
use Rattle.gfx_srl.specs.Srl.{Written}
use Rattle.gfx_dwt.specs.declared.layout.Transform.{Transform}
use Rattle.gfx_dwt.specs.declared.layout.Band.{Band}
use Rattle.gfx_quant.specs.declared.quant.Component.{Component}
use Rattle.gfx_quant.specs.Coefficient.{truncated}
use Rattle.gfx_quant.specs.Quant.{value_of}
use Rattle.gfx_quant.specs.Setting.{left_out}
use Rattle.gfx_tile_state.specs.Entries.{Pass, pass_of, pairs_from, raw_from}
use Rattle.gfx_tile_make.specs.Planes.{by_band}
use Rattle.gfx_tile_make.specs.Source.{SourceTile, planes_of, sent}
use Rattle.gfx_tile_make.specs.Levels.{record_at}

-- what a value gains where more of its bits are sent: of what it is then, what the bits before don't say
abbrev pub gained : Band → ℤ → ℕ → ℕ → ℤ
gained band v before behind = truncated band v behind -ℤ truncated band v before *ℤ pos (2 ^ (before - behind))

-- what each value of a plane gains
abbrev pub entries_of : Transform → List ℕ → List ℕ → List ℤ → List ℤ
entries_of t before behind values = by_band t (λ band v. gained band v (value_of before band) (value_of behind band)) values

-- the entries that raise a component to a level
abbrev pub entries_to : SourceTile → Component → ℕ → List ℤ
entries_to source component level =
    let levels = source.setting.levels in
    entries_of source.setting.transform (left_out component levels (level - 1)) (left_out component levels level) (sent (planes_of source component))

-- the upgrade of a component's record to a level, by the bits of both data
abbrev pub upgrade_to : SourceTile → Component → ℕ → List Bool → List Bool → Pass
upgrade_to source component level srl bits =
    let before = record_at source component (level - 1) in
    pass_of source.setting.transform before.positions (record_at source component level).positions before.sums srl bits

-- both data are those that a server writes for the entries of an upgrade
pub record AreData (pass : Pass) (entries : List ℤ) (srl bits : List ℕ) : Type 0 where
  pub coded_are : Written (pairs_from pass 0 entries) srl
  pub raw_are : IsPadded (raw_from pass 0 entries) bits

-- both data of a component that raise it to a level
abbrev pub IsPass : SourceTile → Component → ℕ → List ℕ → List ℕ → Type 0
IsPass source component level srl bits = AreData (upgrade_to source component level [] []) (entries_to source component level) srl bits
