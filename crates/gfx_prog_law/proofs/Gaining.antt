-- What values gain can be written: each fits the width of its place.
use Rattle.std.proofs.Common.{◌≡◌, ℕ, suc, ◌+◌, ◌-◌, ◌/◌, ◌%◌, ◌^◌, ◌<◌, ◌≤◌, ℤ, pos, negsuc, ◌-ℤ◌, ◌*ℤ◌, List, [], ◌∷◌, length, sym, subst, arith}
use Rattle.std.specs.Prelude.{int_div}
use Rattle.std.specs.Int.RustNames.{unsigned_abs}
use Rattle.std.specs.List.{All}
use Rattle.std.proofs.lemmas.List.Elements.{All-append, All-cons, All-nil}
use Rattle.std.proofs.lemmas.Nat.{mod_below, pow_pos}
use Rattle.gfx_bits.proofs.Padding.{is-padded}
use Rattle.gfx_srl.specs.Writes.{FitsWidth}
use Rattle.gfx_srl.proofs.Writes.{always-written}
use Rattle.gfx_dwt.specs.declared.layout.Transform.{Transform}
use Rattle.gfx_dwt.specs.declared.layout.Band.{Band}
use Rattle.gfx_dwt.specs.declared.layout.Band.TheVariants.{Ll3}
use Rattle.gfx_dwt.specs.Ranges.{at}
use Rattle.gfx_quant.specs.declared.quant.Component.{Component}
use Rattle.gfx_quant.specs.Coefficient.{truncated}
use Rattle.gfx_quant.specs.Quant.{value_of}
use Rattle.gfx_quant.specs.Setting.{base_of, left_out}
use Rattle.gfx_tile_state.specs.Entries.{Coded, Counted, Down, Nothing, Pass, Up, Way, band_at, coded, pairs_from, raw_from, way_at}
use Rattle.gfx_tile_make.specs.Levels.{MayBeSent, positions_at}
use Rattle.gfx_tile_make.specs.Source.{SourceTile, planes_of, sent}
use Rattle.gfx_tile_make.specs.Upgrade.{IsPass, entries_of, entries_to, gained, upgrade_to}
use Rattle.gfx_tile_make.specs.Writing.{upgrade_by}
use Rattle.gfx_tile_make.proofs.ByBand.{at-by_band, length-by_band}
use Rattle.gfx_tile_make.proofs.Gains.{abs-neg, down-gain, low-gain, up-gain}
use Rattle.gfx_tile_make.proofs.ReadBack.{fall-of}
use Rattle.gfx_tile_make.proofs.Sources.{falls-at}
use Rattle.gfx_prog_encode.specs.Messages.{raw_code, srl_code}

-- ---- how large a gain is

quotient-gain : (v : ℤ) (p n : ℕ) → unsigned_abs (int_div v (pos (2 ^ p)) -ℤ int_div v (pos (2 ^ (p + n))) *ℤ pos (2 ^ n)) < 2 ^ n
quotient-gain (pos m) p n = subst (λ z. unsigned_abs z < 2 ^ n) (sym (up-gain m p n)) (mod_below (m / 2 ^ p) (2 ^ n) (pow_pos n))
quotient-gain (negsuc m) p n =
    subst (λ z. unsigned_abs z < 2 ^ n) (sym (down-gain m p n))
    (subst (λ r. r < 2 ^ n) (sym (abs-neg (suc m / 2 ^ p % 2 ^ n))) (mod_below (suc m / 2 ^ p) (2 ^ n) (pow_pos n)))

band-gain : (band : Band) (v : ℤ) (p n : ℕ) → unsigned_abs (truncated band v p -ℤ truncated band v (p + n) *ℤ pos (2 ^ n)) < 2 ^ n
unfolding truncated
band-gain Ll3 v p n = let gain = low-gain v p n in subst (λ z. unsigned_abs z < 2 ^ n) (sym gain.1.1) gain.1.0
band-gain _ v p n = quotient-gain v p n

-- a gain has no more bits than are sent of it
gained-below : (band : Band) (v : ℤ) (before behind : ℕ) → behind ≤ before → unsigned_abs (gained band v before behind) < 2 ^ (before - behind)
gained-below band v before behind h =
    subst (λ q. unsigned_abs (truncated band v behind -ℤ truncated band v q *ℤ pos (2 ^ (before - behind))) < 2 ^ (before - behind)) {x = behind + (before - behind)} {y = before} (omega arith)
    (band-gain band v behind (before - behind))

-- so has an entry
entry-below : (t : Transform) (base before behind : List ℕ) (values : List ℤ) (k : ℕ) → ((band : Band) → value_of behind band ≤ value_of before band) → k < length values
    → unsigned_abs (at (entries_of t before behind values) k) < 2 ^ (value_of (positions_at base before) (band_at t k) - value_of (positions_at base behind) (band_at t k))
entry-below t base before behind values k falls h =
    let band : Band = band_at t k in
    subst (λ z. unsigned_abs z < 2 ^ (value_of (positions_at base before) band - value_of (positions_at base behind) band))
    (sym (at-by_band t (λ band v. gained band v (value_of before band) (value_of behind band)) values k h))
    (subst (λ n. unsigned_abs (gained band (at values k) (value_of before band) (value_of behind band)) < 2 ^ n) (sym (fall-of base before behind band))
    (gained-below band (at values k) (value_of before band) (value_of behind band) (falls band)))

-- ---- what is coded fits

coded-fits : (w : Way) (n : ℕ) (e : ℤ) → unsigned_abs e < 2 ^ n → All FitsWidth (coded w n e)
coded-fits Nothing n e h = All-nil FitsWidth
coded-fits Counted n e h = All-nil FitsWidth
coded-fits Up n e h = All-nil FitsWidth
coded-fits Down n e h = All-nil FitsWidth
coded-fits Coded n e h = All-cons FitsWidth (record { value = e; width = n }) [] h (All-nil FitsWidth)

pairs-fit : (pass : Pass) (k : ℕ) (es : List ℤ) → ((i : ℕ) → i < length es → unsigned_abs (at es i) < 2 ^ pass.falls (k + i)) → All FitsWidth (pairs_from pass k es)
unfolding pairs_from
pairs-fit pass k [] small = All-nil FitsWidth
pairs-fit pass k (e ∷ es) small =
    All-append FitsWidth (coded (way_at pass k) (pass.falls k) e) (pairs_from pass (suc k) es)
    (coded-fits (way_at pass k) (pass.falls k) e (subst (λ j. unsigned_abs e < 2 ^ pass.falls j) {x = k + 0} {y = k} (omega arith) (small 0 (omega arith))))
    (pairs-fit pass (suc k) es (λ i h. subst (λ j. unsigned_abs (at es i) < 2 ^ pass.falls j) {x = k + suc i} {y = suc k + i} (omega arith) (small (suc i) (omega arith))))

-- all pairs of an upgrade
all-fit : (t : Transform) (base before behind : List ℕ) (values : List ℤ) → ((band : Band) → value_of behind band ≤ value_of before band)
    → All FitsWidth (pairs_from (upgrade_by t base before behind values) 0 (entries_of t before behind values))
all-fit t base before behind values falls =
    let whole : length (entries_of t before behind values) ≡ length values = length-by_band t (λ band v. gained band v (value_of before band) (value_of behind band)) values in
    pairs-fit (upgrade_by t base before behind values) 0 (entries_of t before behind values)
    (λ i h. subst (λ j. unsigned_abs (at (entries_of t before behind values) i) < 2 ^ (value_of (positions_at base before) (band_at t j) - value_of (positions_at base behind) (band_at t j))) {x = i} {y = 0 + i} (omega arith)
    (entry-below t base before behind values i falls (omega (arith, whole, h))))

-- ---- what a server writes for an upgrade

pub is-pass : (source : SourceTile) (component : Component) (level : ℕ) → MayBeSent source → 1 ≤ level → level ≤ length source.setting.levels
    → IsPass source component level (srl_code source component level) (raw_code source component level)
is-pass source component level may some listed = record {
  coded_are = always-written (pairs_from (upgrade_to source component level [] []) 0 (entries_to source component level))
      (all-fit source.setting.transform (base_of component source.setting) (left_out component source.setting.levels (level - 1)) (left_out component source.setting.levels level) (sent (planes_of source component))
      (λ band. (falls-at source component level may some listed band).1));
  raw_are = is-padded (raw_from (upgrade_to source component level [] []) 0 (entries_to source component level));
}
