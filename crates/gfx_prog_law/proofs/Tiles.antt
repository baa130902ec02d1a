-- What a client makes of the data of one tile.
use Rattle.std.proofs.Common.{◌≡◌, ◌∙◌, ℕ, ◌+◌, ◌-◌, ◌≤◌, Bool, true, length, refl, ap, Ok, Some}
use Rattle.gfx_base.proofs.ResultLemmas.{and_then_at}
use Rattle.gfx_bits.specs.Bits.{bits_of}
use Rattle.gfx_quant.specs.declared.quant.Component.{Component}
use Rattle.gfx_quant.specs.declared.quant.Component.TheVariants.{Y, Cb, Cr}
use Rattle.gfx_quant.specs.Setting.{IsSetting, base_of, left_out}
use Rattle.gfx_tile_state.specs.declared.state.TileState.{TileState}
use Rattle.gfx_tile_state.specs.Entries.{pass_of}
use Rattle.gfx_tile_state.specs.Making.{first_part, may_upgrade, upgraded_part}
use Rattle.gfx_tile_state.specs.Record.{fits_transform, part_of}
use Rattle.gfx_tile_make.specs.Source.{SourceTile, planes_of, sent}
use Rattle.gfx_tile_make.specs.Levels.{MayBeSent, record_at, tile_at}
use Rattle.gfx_tile_make.proofs.ReadBack.{pass-short}
use Rattle.gfx_tile_make.proofs.Sources.{few-at, sent-whole}
use Rattle.gfx_prog_encode.specs.Messages.{first_code, first_pass, raw_code, srl_code, upgrade_pass}
use Rattle.gfx_prog_decode.specs.Coding.{Coding, positions_in}
use Rattle.gfx_prog_decode.specs.Passes.{improved, kept_of, part_improved, part_started, started}
use Rattle.gfx_prog_law.proofs.First.{first-read, first-short}
use Rattle.gfx_prog_law.proofs.Gaining.{is-pass}
use Rattle.gfx_prog_law.proofs.Raising.{alike, level-below, may-follow, part-raised}
use Rattle.gfx_prog_law.proofs.Values.{first-due}

-- ---- at the first level

-- the code of a component leaves its record at level 0
part-begun : (difference : Bool) (coding : Coding) (source : SourceTile) (component : Component) (before : TileState) → MayBeSent source → coding.transform ≡ source.setting.transform
    → positions_in coding component ≡ (record_at source component 0).positions → kept_of difference (part_of before component) ≡ (record_at source component 0).kept
    → part_started difference coding component (first_code source component) before ≡ Ok (record_at source component 0)
part-begun difference coding source component before may same place due =
    (λ i. first_part (same i) (place i) (first_code source component) (due i)) ∙ first-read source component may (first-due source component may)

-- a tile's codes at the first level leave its record at level 0
pub tile-begun : (difference : Bool) (coding : Coding) (source : SourceTile) (before : TileState) → MayBeSent source → IsSetting source.setting → coding.transform ≡ source.setting.transform
    → ((component : Component) → positions_in coding component ≡ (record_at source component 0).positions)
    → ((component : Component) → kept_of difference (part_of before component) ≡ (record_at source component 0).kept)
    → started difference coding (first_pass source) before ≡ Ok (tile_at source 0)
unfolding started first_pass
tile-begun difference coding source before may setting same places due =
    and_then_at (part_started difference coding Y (first_code source Y) before) (record_at source Y 0) _ (part-begun difference coding source Y before may same (places Y) (due Y))
    ∙ and_then_at (part_started difference coding Cb (first_code source Cb) before) (record_at source Cb 0) _ (part-begun difference coding source Cb before may same (places Cb) (due Cb))
    ∙ and_then_at (part_started difference coding Cr (first_code source Cr) before) (record_at source Cr 0) _ (part-begun difference coding source Cr before may same (places Cr) (due Cr))
    ∙ (λ i. Ok (record { transform = Some (same i); y = record_at source Y 0; cb = record_at source Cb 0; cr = record_at source Cr 0 }))

-- and are short
pub first-short-tile : (source : SourceTile) (component : Component) → MayBeSent source → IsSetting source.setting → length (first_code source component) ≤ 65535
first-short-tile source component may setting = first-short source component (first-due source component may)

-- ---- upgrades

-- what raises a component raises its part of a record
part-improved : (coding : Coding) (source : SourceTile) (component : Component) (level : ℕ) (old : TileState) → MayBeSent source → 1 ≤ level → level ≤ length source.setting.levels → coding.transform ≡ source.setting.transform
    → positions_in coding component ≡ (record_at source component level).positions → part_of old component ≡ record_at source component (level - 1)
    → part_improved coding component (srl_code source component level) (raw_code source component level) old ≡ Ok (record_at source component level)
part-improved coding source component level old may some listed same place was =
    (λ i.
    upgraded_part (pass_of (same i) (was i).positions (place i) (was i).sums (bits_of (srl_code source component level)) (bits_of (raw_code source component level))) (place i) (was i))
    ∙ part-raised source component level may some listed

-- what raises a tile raises its record
pub tile-raised : (coding : Coding) (source : SourceTile) (level : ℕ) → MayBeSent source → IsSetting source.setting → 1 ≤ level → level ≤ length source.setting.levels → coding.transform ≡ source.setting.transform
    → ((component : Component) → positions_in coding component ≡ (record_at source component level).positions)
    → improved coding (upgrade_pass source level) (tile_at source (level - 1)) ≡ Ok (tile_at source level)
unfolding improved upgrade_pass
tile-raised coding source level may setting some listed same places =
    let old : TileState = tile_at source (level - 1) in
    let fits : fits_transform (Some source.setting.transform) coding.transform ≡ true = ap (fits_transform (Some source.setting.transform)) same ∙ alike source.setting.transform in
    let follows : may_upgrade old coding.transform (positions_in coding) ≡ Ok tt =
    may-follow old coding.transform (positions_in coding) fits
    (level-below source Y level coding.y may some listed (places Y))
    (level-below source Cb level coding.cb may some listed (places Cb))
    (level-below source Cr level coding.cr may some listed (places Cr)) in
    and_then_at (may_upgrade old coding.transform (positions_in coding)) tt _ follows
    ∙ and_then_at (part_improved coding Y (srl_code source Y level) (raw_code source Y level) old) (record_at source Y level) _ (part-improved coding source Y level old may some listed same (places Y) refl)
    ∙ and_then_at (part_improved coding Cb (srl_code source Cb level) (raw_code source Cb level) old) (record_at source Cb level) _ (part-improved coding source Cb level old may some listed same (places Cb) refl)
    ∙ and_then_at (part_improved coding Cr (srl_code source Cr level) (raw_code source Cr level) old) (record_at source Cr level) _ (part-improved coding source Cr level old may some listed same (places Cr) refl)

-- and is short
pub pass-short-tile : (source : SourceTile) (component : Component) (level : ℕ) → MayBeSent source → IsSetting source.setting → 1 ≤ level → level ≤ length source.setting.levels
    → length (srl_code source component level) + length (raw_code source component level) ≤ 65535
pass-short-tile source component level may setting some listed =
    pass-short source.setting.transform (base_of component source.setting) (left_out component source.setting.levels (level - 1)) (left_out component source.setting.levels level) (sent (planes_of source component))
    (srl_code source component level) (raw_code source component level) (sent-whole source component may) (λ band. few-at source component level band may some listed)
    (is-pass source component level may some listed)
