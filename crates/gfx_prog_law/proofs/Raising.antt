-- What a client makes of what raises a component.
use Rattle.std.proofs.Common.{◌≡◌, ◌∙◌, ℕ, zero, suc, ◌-◌, ◌<◌, ◌≤◌, Bool, true, false, ◌&&◌, List, length, refl, sym, ap, arith, Ok, Some}
use Rattle.std.specs.Prelude.{nat_le, slice_index}
use Rattle.std.proofs.lemmas.Bool.{le-leb}
use Rattle.gfx_base.specs.declared.refusal.Refusal.TheVariants.{QualityWorse, TransformChanged}
use Rattle.gfx_base.specs.Results.{check}
use Rattle.gfx_base.proofs.ResultLemmas.{and_then_at}
use Rattle.gfx_bits.specs.Bits.{bits_of}
use Rattle.gfx_dwt.specs.declared.layout.Transform.{Transform}
use Rattle.gfx_dwt.specs.declared.layout.Transform.TheVariants.{Plain, Reduced}
use Rattle.gfx_quant.specs.declared.quant.Component.{Component}
use Rattle.gfx_quant.specs.declared.quant.Component.TheVariants.{Y, Cb, Cr}
use Rattle.gfx_quant.specs.Setting.{all_below, base_of, left_out}
use Rattle.gfx_tile_state.specs.declared.state.TileState.{TileState}
use Rattle.gfx_tile_state.specs.Entries.{AreEntries, band_at, pass_of}
use Rattle.gfx_tile_state.specs.Making.{are_below, may_upgrade, upgraded_part}
use Rattle.gfx_tile_state.specs.Record.{fits_transform}
use Rattle.gfx_tile_state.specs.Shape.{AreBelow}
use Rattle.gfx_tile_state.proofs.Making.{upgrade-is}
use Rattle.gfx_tile_make.specs.Source.{Planes, SourceTile, planes_of, sent}
use Rattle.gfx_tile_make.specs.Levels.{MayBeSent, StaysWithin, positions_at, record_at, record_by, summed_at}
use Rattle.gfx_tile_make.specs.Upgrade.{entries_of, upgrade_to}
use Rattle.gfx_tile_make.proofs.ByBand.{length-by_band}
use Rattle.gfx_tile_make.proofs.ReadBack.{data-read}
use Rattle.gfx_tile_make.proofs.Records.{Falls, sum-behind}
use Rattle.gfx_tile_make.proofs.Sources.{below-at, falls-at, sent-whole}
use Rattle.gfx_prog_encode.specs.Messages.{raw_code, srl_code}
use Rattle.gfx_prog_law.proofs.Gaining.{is-pass}

-- ---- a component

record-raised : (t : Transform) (base before behind : List ℕ) (planes : Planes) (srl raw : List Bool) → length (sent planes) ≡ 4096 → Falls base before behind → StaysWithin (record_by t base behind planes)
    → AreEntries (pass_of t (positions_at base before) (positions_at base behind) (record_by t base before planes).sums srl raw) (entries_of t before behind (sent planes))
    → upgraded_part (pass_of t (positions_at base before) (positions_at base behind) (record_by t base before planes).sums srl raw) (positions_at base behind) (record_by t base before planes)
    ≡ Ok (record_by t base behind planes)
record-raised t base before behind planes srl raw long falls stays entries =
    upgrade-is (Ok tt) (pass_of t (positions_at base before) (positions_at base behind) (record_by t base before planes).sums srl raw) (positions_at base behind) (record_by t base before planes) (record_by t base behind planes) (
      entries_of t before behind (sent planes),
      entries,
      λ k h. sym (sum-behind t base before behind planes srl raw k long h (falls (band_at t k)).0 (falls (band_at t k)).1),
      refl,
      refl,
      length-by_band t (summed_at base behind) (sent planes) ∙ long,
      stays,
    )

-- what a server writes raises a component from the level before
pub part-raised : (source : SourceTile) (component : Component) (level : ℕ) → MayBeSent source → 1 ≤ level → level ≤ length source.setting.levels
    → upgraded_part (upgrade_to source component level (bits_of (srl_code source component level)) (bits_of (raw_code source component level))) (record_at source component level).positions (record_at source component (level - 1))
    ≡ Ok (record_at source component level)
part-raised source component level may some listed =
    let t : Transform = source.setting.transform in
    let base : List ℕ = base_of component source.setting in
    let before : List ℕ = left_out component source.setting.levels (level - 1) in
    let behind : List ℕ = left_out component source.setting.levels level in
    let srl : List ℕ = srl_code source component level in
    let raw : List ℕ = raw_code source component level in
    let falls : Falls base before behind = falls-at source component level may some listed in
    record-raised t base before behind (planes_of source component) (bits_of srl) (bits_of raw) (sent-whole source component may) falls (may.fits component level listed)
    (data-read t base before behind (sent (planes_of source component)) srl raw (sent-whole source component may) (λ band. (falls band).1) (is-pass source component level may some listed))

-- ---- whether an upgrade may follow

-- a transform is like itself
pub alike : (t : Transform) → fits_transform (Some t) t ≡ true
alike Plain = refl
alike Reduced = refl

both-hold : (a b : Bool) → a ≡ true → b ≡ true → (a && b) ≡ true
both-hold true b e f = f
both-hold false b e f = e

all-pass : (n : ℕ) (test : ℕ → Bool) → ((k : ℕ) → k < n → test k ≡ true) → all_below n test ≡ true
unfolding all_below
all-pass zero test h = refl
all-pass (suc n) test h = both-hold (all_below n test) (test n) (all-pass n test (λ k less. h k (omega arith))) (h n (omega arith))

below-passes : (low high : List ℕ) → AreBelow low high → are_below low high ≡ true
below-passes low high below = all-pass 10 (λ k. nat_le (slice_index low k) (slice_index high k)) (λ k h. le-leb (slice_index low k) (slice_index high k) (below k h))

-- where what is left out doesn't rise, neither do the positions
positions-below : (base low high : List ℕ) → AreBelow low high → AreBelow (positions_at base low) (positions_at base high)
positions-below base low high below zero h = omega (arith, below 0 (omega arith))
positions-below base low high below (suc zero) h = omega (arith, below 1 (omega arith))
positions-below base low high below (suc (suc zero)) h = omega (arith, below 2 (omega arith))
positions-below base low high below (suc (suc (suc zero))) h = omega (arith, below 3 (omega arith))
positions-below base low high below (suc (suc (suc (suc zero)))) h = omega (arith, below 4 (omega arith))
positions-below base low high below (suc (suc (suc (suc (suc zero))))) h = omega (arith, below 5 (omega arith))
positions-below base low high below (suc (suc (suc (suc (suc (suc zero)))))) h = omega (arith, below 6 (omega arith))
positions-below base low high below (suc (suc (suc (suc (suc (suc (suc zero))))))) h = omega (arith, below 7 (omega arith))
positions-below base low high below (suc (suc (suc (suc (suc (suc (suc (suc zero)))))))) h = omega (arith, below 8 (omega arith))
positions-below base low high below (suc (suc (suc (suc (suc (suc (suc (suc (suc zero))))))))) h = omega (arith, below 9 (omega arith))
positions-below base low high below (suc (suc (suc (suc (suc (suc (suc (suc (suc (suc k)))))))))) h = absurd (omega arith)

-- the positions of a component fall from the level before
pub level-below : (source : SourceTile) (component : Component) (level : ℕ) (positions : List ℕ) → MayBeSent source → 1 ≤ level → level ≤ length source.setting.levels → positions ≡ (record_at source component level).positions
    → are_below positions (record_at source component (level - 1)).positions ≡ true
level-below source component level positions may some listed is =
    ap (λ p. are_below p (record_at source component (level - 1)).positions) is
    ∙ below-passes (record_at source component level).positions (record_at source component (level - 1)).positions
    (positions-below (base_of component source.setting) (left_out component source.setting.levels level) (left_out component source.setting.levels (level - 1)) (below-at source component level may some listed))

-- an upgrade may follow where the transform is alike and no position rises
pub may-follow : (tile : TileState) (t : Transform) (positions : Component → List ℕ) → fits_transform tile.transform t ≡ true
    → are_below (positions Y) tile.y.positions ≡ true → are_below (positions Cb) tile.cb.positions ≡ true → are_below (positions Cr) tile.cr.positions ≡ true → may_upgrade tile t positions ≡ Ok tt
unfolding may_upgrade
may-follow tile t positions same y cb cr =
    and_then_at (check TransformChanged (fits_transform tile.transform t)) tt _ (ap (check TransformChanged) same)
    ∙ ap (check QualityWorse)
    (both-hold (are_below (positions Y) tile.y.positions && are_below (positions Cb) tile.cb.positions) (are_below (positions Cr) tile.cr.positions)
    (both-hold (are_below (positions Y) tile.y.positions) (are_below (positions Cb) tile.cb.positions) y cb) cr)
