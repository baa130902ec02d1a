use Rattle.std.proofs.Common.{◌≡◌, ◌∙◌, ◌-◌, ap, subst}
use Rattle.gfx_bits.specs.Bits.{bits_of}
use Rattle.gfx_quant.specs.Setting.{base_of, left_out}
use Rattle.gfx_tile_state.specs.Entries.{pass_of}
use Rattle.gfx_tile_state.specs.Shapes.{positions_of}
use Rattle.gfx_tile_state.specs.Passes.{Part, Upgrades}
use Rattle.gfx_tile_state.specs.Record.{part_of, upgrade_of}
use Rattle.gfx_tile_make.specs.Source.{planes_of, sent}
use Rattle.gfx_tile_make.specs.Levels.{record_at}
use Rattle.gfx_tile_make.specs.Upgrade.{upgrade_to}
use Rattle.gfx_tile_make.proofs.ReadBack.{data-read}
use Rattle.gfx_tile_make.proofs.Records.{upgrade-record}
use Rattle.gfx_tile_make.proofs.Sources.{falls-at, sent-whole}
use Rattle.gfx_tile_make.proofs.laws.upgrade_is_shown.Goals as goal

pub returns : goal.returns
returns c result source component level srl raw shape old new may some listed fits written was took =
    let t = source.setting.transform in
    let base = base_of component source.setting in
    let before = left_out component source.setting.levels (level - 1) in
    let behind = left_out component source.setting.levels level in
    let falls = falls-at source component level may some listed in
    let behind-positions = (record_at source component level).positions in
    let same : upgrade_of old component shape srl raw ≡ upgrade_to source component level (bits_of srl) (bits_of raw) =
    ap (λ s. pass_of s (part_of old component).positions (positions_of shape component) (part_of old component).sums (bits_of srl) (bits_of raw)) fits.transform_is
    ∙ ap (λ p. pass_of t (part_of old component).positions p (part_of old component).sums (bits_of srl) (bits_of raw)) (fits.positions_are component)
    ∙ ap (λ (p : Part). pass_of t p.positions behind-positions p.sums (bits_of srl) (bits_of raw)) was in
    upgrade-record result t base before behind (planes_of source component) (bits_of srl) (bits_of raw) (part_of old component) (part_of new component)
    (sent-whole source component may) falls (may.fits component level listed) was
    (data-read t base before behind (sent (planes_of source component)) srl raw (sent-whole source component may) (λ band. (falls band).1) written)
    (subst (λ p. Upgrades result (upgrade_to source component level (bits_of srl) (bits_of raw)) p (part_of old component) (part_of new component)) (fits.positions_are component)
    (subst (λ p. Upgrades result p (positions_of shape component) (part_of old component) (part_of new component)) same took.0))
