-- Tiles that may be sent.
use Rattle.std.proofs.Common.{◌≡◌, ◌∙◌, ◌⊎◌, inl, inr, ℕ, suc, ◌+◌, ◌-◌, ◌/◌, ◌%◌, ◌<◌, ◌≤◌, Bool, true, false, ◌&&◌, ℤ, pos, ◌+ℤ◌, ◌-ℤ◌, ◌*ℤ◌, List, length, refl, sym, ap, subst, arith}
use Rattle.std.specs.Prelude.{MatchBool, slice_index}
use Rattle.std.proofs.lemmas.Int.{ints}
use Rattle.std.proofs.lemmas.List.{length-replicate}
use Rattle.std.proofs.lemmas.List.FromFn.{length-map-range_with_len, get_or-map-range_with_len}
use Rattle.std.proofs.Math.IntN.{+ℤ_idl}
use Rattle.gfx_base.specs.declared.pixel.Pixel.{Pixel}
use Rattle.gfx_dwt.specs.declared.layout.Transform.{Transform}
use Rattle.gfx_dwt.specs.declared.layout.Band.{Band}
use Rattle.gfx_dwt.specs.Coefficients.{transformed}
use Rattle.gfx_dwt.specs.Place.{columns, number, start}
use Rattle.gfx_dwt.specs.Ranges.{Within, at}
use Rattle.gfx_dwt.specs.Samples.{sample}
use Rattle.gfx_quant.specs.declared.quant.Component.{Component}
use Rattle.gfx_quant.specs.declared.quant.Component.TheVariants.{Y, Cb, Cr}
use Rattle.gfx_quant.specs.declared.rounding.Rounding.{Rounding}
use Rattle.gfx_quant.specs.declared.setting.Setting.{Setting}
use Rattle.gfx_quant.specs.Coefficient.{coefficient_of, is_coefficient, truncated}
use Rattle.gfx_quant.specs.Colour.{colour_of}
use Rattle.gfx_quant.specs.Planes.{MapsBands}
use Rattle.gfx_quant.specs.Quant.{value_of}
use Rattle.gfx_quant.specs.Setting.{base_of, is_accepted, left_out}
use Rattle.gfx_quant.proofs.Everywhere.{few}
use Rattle.gfx_tile_state.specs.Entries.{band_at}
use Rattle.gfx_tile_state.specs.Passes.{LeavesIt, blank, coefficients}
use Rattle.gfx_tile_state.specs.Shape.{AreBelow, AreWithin}
use Rattle.gfx_tile_state.proofs.Places.{at-added, length-added}
use Rattle.gfx_tile_make.specs.Planes.{by_band, less}
use Rattle.gfx_tile_make.specs.Quantised.{quantised_at, quantised_in, quantised_samples}
use Rattle.gfx_tile_make.specs.Source.{Planes, SourceTile, difference_of, onto, plain, planes_of, sent, source_of}
use Rattle.gfx_tile_make.specs.Levels.{ComponentFits, ComponentLeaves, Fits, MayBeSent, StaysWithin, direct_pixel, direct_plane, record_at, record_by, shown_at, summed_at, truncated_plane, values_at}
use Rattle.gfx_tile_make.specs.Fitting.{LevelsFit, LevelsLeave, PlaneFits, PlaneLeaves, fits_at, place_fits}
use Rattle.gfx_tile_make.proofs.ByBand.{at-by_band, at-less, is-by_band, length-by_band, length-less, mapped, same-planes}
use Rattle.gfx_tile_make.proofs.Gains.{parts}
use Rattle.gfx_tile_make.proofs.InRange.{at-blank, nothing-of, quantised-fits, small-value, truncated-none}
use Rattle.gfx_tile_make.proofs.Records.{Falls}
use Rattle.gfx_tile_make.proofs.Settings.{behind-none, bases-within, falls-all, within-all}

-- ---- what is known of a tile that may be sent

pub sent-whole : (source : SourceTile) (component : Component) → MayBeSent source → length (sent (planes_of source component)) ≡ 4096
sent-whole source component may = length-less _ _ (may.own component ∙ sym (may.kept component)) ∙ may.own component

pub falls-at : (source : SourceTile) (component : Component) (level : ℕ) → MayBeSent source → 1 ≤ level → level ≤ length source.setting.levels
    → Falls (base_of component source.setting) (left_out component source.setting.levels (level - 1)) (left_out component source.setting.levels level)
falls-at source component level may some listed band =
    let fall = falls-all source.setting component (level - 1) may.accepted (omega arith) (number band) (few band) in
    let base = may.bases component (number band) (few band) in
    (omega (arith, base.0), subst (λ n. slice_index (left_out component source.setting.levels n) (number band) ≤ slice_index (left_out component source.setting.levels (level - 1)) (number band)) {x = suc (level - 1)} {y = level} (omega arith) fall.0)

-- values that are sent are small
sent-small : (t : Transform) (base level : List ℕ) (planes : Planes) (k : ℕ) → length (sent planes) ≡ 4096 → k < 4096 → 6 ≤ value_of base (band_at t k) → value_of level (band_at t k) ≡ 0
    → StaysWithin (record_by t base level planes) → Within 1024 (at (sent planes) k)
sent-small t base level planes k long h wide none stays =
    let band : Band = band_at t k in
    small-value (at (sent planes) k) (value_of base band) wide
    (ap is_coefficient (ap (λ v. coefficient_of v (value_of base band)) (sym (truncated-none band (at (sent planes) k)))
    ∙ ap (λ s. coefficient_of (truncated band (at (sent planes) k) 0) s) {x = value_of base band} {y = value_of base band + 0} (omega arith)
    ∙ ap (λ n. coefficient_of (truncated band (at (sent planes) k) n) (value_of base band + n)) (sym none)
    ∙ sym (at-by_band t (summed_at base level) (sent planes) k (omega arith))) ∙ (stays k h).0)

pub sent-within : (source : SourceTile) (component : Component) (k : ℕ) → MayBeSent source → k < 4096 → Within 1024 (at (sent (planes_of source component)) k)
sent-within source component k may h =
    let last : ℕ = length source.setting.levels in
    let band : Band = band_at source.setting.transform k in
    sent-small source.setting.transform (base_of component source.setting) (left_out component source.setting.levels last) (planes_of source component) k (sent-whole source component may) h
    (may.bases component (number band) (few band)).0 (behind-none component source.setting.levels last (number band) (omega arith)) (may.fits component last (omega arith))

-- ---- tiles of pixels

pub quantised-whole : (rounding : Rounding) (t : Transform) (base : List ℕ) (samples : List ℤ) → length (quantised_samples rounding t base samples) ≡ 4096
unfolding quantised_samples
quantised-whole rounding t base samples = length-map-range_with_len (quantised_at rounding t base samples) 0 4096

pub at-quantised : (rounding : Rounding) (t : Transform) (base : List ℕ) (samples : List ℤ) (k : ℕ) → k < 4096 → at (quantised_samples rounding t base samples) k ≡ quantised_at rounding t base samples k
unfolding quantised_samples
at-quantised rounding t base samples k h = get_or-map-range_with_len (quantised_at rounding t base samples) 0 4096 k k (pos 0) h (omega arith)

minus-nothing : (z : ℤ) → z -ℤ pos 0 ≡ z
minus-nothing z = omega (arith, ints)

-- a component that goes on nothing sends its own values
pub plain-sent : (own : List ℤ) → length own ≡ 4096 → sent (plain own) ≡ own
plain-sent own long =
    let whole : length own ≡ length blank = long ∙ sym (length-replicate 4096 (pos 0)) in
    same-planes (sent (plain own)) own 4096 (length-less own blank whole ∙ long) long
    (λ k h. at-less own blank k whole (omega arith) ∙ ap (λ z. at own k -ℤ z) (at-blank k h) ∙ minus-nothing (at own k))

pub blank-kept : (t : Transform) (base : List ℕ) → direct_plane t base blank ≡ blank
blank-kept t base =
    sym (is-by_band t (λ band v. coefficient_of v (value_of base band)) blank blank (length-replicate 4096 (pos 0)) (length-replicate 4096 (pos 0))
    (λ k h. at-blank k h ∙ sym (ap (λ v. coefficient_of v (value_of base (band_at t k))) (at-blank k h) ∙ nothing-of (value_of base (band_at t k)))))

quantised-sum : (rounding : Rounding) (t : Transform) (base level : List ℕ) (samples : List ℤ) (k : ℕ) → k < 4096 → 2 ≤ value_of base (band_at t k) → value_of base (band_at t k) + value_of level (band_at t k) ≤ 15
    → is_coefficient (at (record_by t base level (plain (quantised_samples rounding t base samples))).sums k) ≡ true
unfolding quantised_at quantised_in
quantised-sum rounding t base level samples k h some most =
    let band : Band = band_at t k in
    let own : List ℤ = quantised_samples rounding t base samples in
    ap is_coefficient
    (ap (λ l. at (by_band t (summed_at base level) l) k) (plain-sent own (quantised-whole rounding t base samples))
    ∙ at-by_band t (summed_at base level) own k (omega (arith, quantised-whole rounding t base samples))
    ∙ ap (summed_at base level band) (at-quantised rounding t base samples k h))
    ∙ quantised-fits rounding band (transformed t samples band ((k - start t band) / columns t band) ((k - start t band) % columns t band)) (value_of base band) (value_of level band) some most

plain-stays : (rounding : Rounding) (t : Transform) (base level : List ℕ) (samples : List ℤ) → AreWithin 6 15 base → ((k : ℕ) → k < 10 → slice_index base k + slice_index level k ≤ 15)
    → StaysWithin (record_by t base level (plain (quantised_samples rounding t base samples)))
plain-stays rounding t base level samples wide most k h =
    let band : Band = band_at t k in
    let sum = quantised-sum rounding t base level samples k h (omega (arith, (wide (number band) (few band)).0)) (most (number band) (few band)) in
    let sums : List ℤ = (record_by t base level (plain (quantised_samples rounding t base samples))).sums in
    (sum, ap is_coefficient (ap (λ l. at l k +ℤ at sums k) (blank-kept t base) ∙ ap (λ z. z +ℤ at sums k) (at-blank k h) ∙ +ℤ_idl (at sums k)) ∙ sum)

pub plain-may : (setting : Setting) (pixels : List Pixel) → is_accepted setting ≡ true → ((component : Component) → length (base_of component setting) ≡ 10) → MayBeSent (source_of setting pixels)
plain-may setting pixels ok ten = record {
  accepted = ok;
  bases = λ component. bases-within setting component ok (ten component);
  own = own;
  kept = kept;
  fits = fits;
}
  where
    own : (component : Component) → length (planes_of (source_of setting pixels) component).own ≡ 4096
    own Y = quantised-whole _ _ _ _
    own Cb = quantised-whole _ _ _ _
    own Cr = quantised-whole _ _ _ _

    kept : (component : Component) → length (planes_of (source_of setting pixels) component).kept ≡ 4096
    kept Y = length-replicate 4096 (pos 0)
    kept Cb = length-replicate 4096 (pos 0)
    kept Cr = length-replicate 4096 (pos 0)

    fits : (component : Component) (level : ℕ) → level ≤ length setting.levels → StaysWithin (record_at (source_of setting pixels) component level)
    fits Y level h = plain-stays _ _ _ _ _ (bases-within setting Y ok (ten Y)) (within-all setting Y level ok)
    fits Cb level h = plain-stays _ _ _ _ _ (bases-within setting Cb ok (ten Cb)) (within-all setting Cb level ok)
    fits Cr level h = plain-stays _ _ _ _ _ (bases-within setting Cr ok (ten Cr)) (within-all setting Cr level ok)

-- ---- the last level

kept-and-sent : (own kept : ℤ) (w : ℕ) → kept *ℤ pos w +ℤ (own -ℤ kept) *ℤ pos w ≡ own *ℤ pos w
kept-and-sent own kept w = parts own kept w

direct-at : (t : Transform) (base level : List ℕ) (planes : Planes) (k : ℕ) → length planes.own ≡ 4096 → length planes.kept ≡ 4096 → k < 4096 → value_of level (band_at t k) ≡ 0
    → at (coefficients (record_by t base level planes)) k ≡ coefficient_of (at planes.own k) (value_of base (band_at t k))
direct-at t base level planes k own kept h none =
    let band : Band = band_at t k in
    let both : length planes.own ≡ length planes.kept = own ∙ sym kept in
    let long : length (sent planes) ≡ 4096 = length-less planes.own planes.kept both ∙ own in
    let record-planes = record_by t base level planes in
    let same : length record-planes.kept ≡ length record-planes.sums =
    length-by_band t (λ band v. coefficient_of v (value_of base band)) planes.kept ∙ kept ∙ sym (length-by_band t (summed_at base level) (sent planes) ∙ long) in
    let here : k < length record-planes.kept = omega (arith, length-by_band t (λ band v. coefficient_of v (value_of base band)) planes.kept) in
    at-added record-planes.kept record-planes.sums k same here
    ∙ ap (λ z. z +ℤ at record-planes.sums k) (at-by_band t (λ band v. coefficient_of v (value_of base band)) planes.kept k (omega arith))
    ∙ ap (λ z. coefficient_of (at planes.kept k) (value_of base band) +ℤ z)
    (at-by_band t (summed_at base level) (sent planes) k (omega arith)
    ∙ ap (λ n. coefficient_of (truncated band (at (sent planes) k) n) (value_of base band + n)) none
    ∙ ap (λ v. coefficient_of v (value_of base band + 0)) (truncated-none band (at (sent planes) k) ∙ at-less planes.own planes.kept k both (omega arith))
    ∙ ap (λ s. coefficient_of (at planes.own k -ℤ at planes.kept k) s) {x = value_of base band + 0} {y = value_of base band} (omega arith))
    ∙ kept-and-sent (at planes.own k) (at planes.kept k) _

direct-by : (t : Transform) (base level : List ℕ) (planes : Planes) → length planes.own ≡ 4096 → length planes.kept ≡ 4096 → ((k : ℕ) → slice_index level k ≡ 0)
    → coefficients (record_by t base level planes) ≡ direct_plane t base planes.own
direct-by t base level planes own kept none =
    let both : length planes.own ≡ length planes.kept = own ∙ sym kept in
    let long : length (sent planes) ≡ 4096 = length-less planes.own planes.kept both ∙ own in
    let first : length (record_by t base level planes).kept ≡ 4096 = length-by_band t (λ band v. coefficient_of v (value_of base band)) planes.kept ∙ kept in
    let second : length (record_by t base level planes).sums ≡ 4096 = length-by_band t (summed_at base level) (sent planes) ∙ long in
    is-by_band t (λ band v. coefficient_of v (value_of base band)) planes.own (coefficients (record_by t base level planes)) own
    (length-added (record_by t base level planes).kept (record_by t base level planes).sums (first ∙ sym second) ∙ first)
    (λ k h. direct-at t base level planes k own kept h (none (number (band_at t k))))

pub last-direct : (source : SourceTile) (component : Component) → MayBeSent source
    → coefficients (record_at source component (length source.setting.levels)) ≡ direct_plane source.setting.transform (base_of component source.setting) (planes_of source component).own
last-direct source component may =
    direct-by source.setting.transform (base_of component source.setting) (left_out component source.setting.levels (length source.setting.levels)) (planes_of source component) (may.own component) (may.kept component)
    (λ k. behind-none component source.setting.levels (length source.setting.levels) k (omega arith))

pub last-shown : (source : SourceTile) → MayBeSent source → (y x : ℕ) → shown_at source (length source.setting.levels) y x ≡ direct_pixel source y x
last-shown source may y x = λ i.
    colour_of (sample source.setting.transform (last-direct source Y may i) y x) (sample source.setting.transform (last-direct source Cb may i) y x) (sample source.setting.transform (last-direct source Cr may i) y x)

pub difference-kept : (source kept : SourceTile) (component : Component) (level : ℕ) → MayBeSent kept → kept.setting ≡ source.setting
    → (record_at (difference_of source kept) component level).kept ≡ coefficients (record_at kept component (length kept.setting.levels))
difference-kept source kept Y level may e = ap (λ (s : Setting). direct_plane s.transform s.y.values kept.y.own) (sym e) ∙ sym (last-direct kept Y may)
difference-kept source kept Cb level may e = ap (λ (s : Setting). direct_plane s.transform s.cb.values kept.cb.own) (sym e) ∙ sym (last-direct kept Cb may)
difference-kept source kept Cr level may e = ap (λ (s : Setting). direct_plane s.transform s.cr.values kept.cr.own) (sym e) ∙ sym (last-direct kept Cr may)

pub plain-kept : (source : SourceTile) (component : Component) (level : ℕ) → (planes_of source component).kept ≡ blank → (record_at source component level).kept ≡ blank
plain-kept source component level e = ap (direct_plane source.setting.transform (base_of component source.setting)) e ∙ blank-kept source.setting.transform (base_of component source.setting)

-- ---- a tile that goes on another

pub difference-may : (source kept : SourceTile) → MayBeSent source → MayBeSent kept → Fits (difference_of source kept) → MayBeSent (difference_of source kept)
difference-may source kept may may' fits = record {
  accepted = may.accepted;
  bases = may.bases;
  own = own;
  kept = others;
  fits = fits;
}
  where
    own : (component : Component) → length (planes_of (difference_of source kept) component).own ≡ 4096
    own Y = may.own Y
    own Cb = may.own Cb
    own Cr = may.own Cr

    others : (component : Component) → length (planes_of (difference_of source kept) component).kept ≡ 4096
    others Y = may'.own Y
    others Cb = may'.own Cb
    others Cr = may'.own Cr

-- ---- what a call gives

pub level-is : (source : SourceTile) (component : Component) (level : ℕ) (t : Transform) (left : List ℕ) (planes : Planes) (values out : List ℤ) → t ≡ source.setting.transform → left ≡ left_out component source.setting.levels level → planes ≡ planes_of source component
    → values ≡ sent planes → length values ≡ 4096 → length out ≡ 4096 → MapsBands t (λ band v. truncated band v (value_of left band)) values out → out ≡ values_at source component level
level-is source component level t left planes values out et el ep ev long long' maps =
    mapped t (λ band v. truncated band v (value_of left band)) values out long long' maps
    ∙ ap (λ u. truncated_plane u left values) et
    ∙ ap (λ l. truncated_plane source.setting.transform l values) el
    ∙ ap (truncated_plane source.setting.transform (left_out component source.setting.levels level)) (ev ∙ ap sent ep)

pub sent-small-all : (source : SourceTile) (component : Component) (planes : Planes) (values : List ℤ) → MayBeSent source → planes ≡ planes_of source component → values ≡ sent planes → length values ≡ 4096 → (k : ℕ) → k < length values → Within 1024 (at values k)
sent-small-all source component planes values may ep ev long k h = subst (λ l. Within 1024 (at l k)) (sym (ev ∙ ap sent ep)) (sent-within source component k may (omega arith))

pub below-at : (source : SourceTile) (component : Component) (level : ℕ) → MayBeSent source → 1 ≤ level → level ≤ length source.setting.levels
    → AreBelow (left_out component source.setting.levels level) (left_out component source.setting.levels (level - 1))
below-at source component level may some listed k h =
    let fall = falls-all source.setting component (level - 1) may.accepted (omega arith) k h in
    subst (λ n. slice_index (left_out component source.setting.levels n) k ≤ slice_index (left_out component source.setting.levels (level - 1)) k) {x = suc (level - 1)} {y = level} (omega arith) fall.0

pub few-at : (source : SourceTile) (component : Component) (level : ℕ) (band : Band) → MayBeSent source → 1 ≤ level → level ≤ length source.setting.levels
    → value_of (left_out component source.setting.levels (level - 1)) band - value_of (left_out component source.setting.levels level) band ≤ 6
few-at source component level band may some listed =
    let fall = falls-all source.setting component (level - 1) may.accepted (omega arith) (number band) (few band) in
    let next : slice_index (left_out component source.setting.levels (level - 1)) (number band) ≤ slice_index (left_out component source.setting.levels level) (number band) + 6 =
    subst (λ n. slice_index (left_out component source.setting.levels (level - 1)) (number band) ≤ slice_index (left_out component source.setting.levels n) (number band) + 6) {x = suc (level - 1)} {y = level} (omega arith) fall.1 in
    omega arith

-- a component of a tile that goes on another
onto-of : (source kept : SourceTile) (component : Component) → planes_of (difference_of source kept) component ≡ onto (planes_of source component) (planes_of kept component)
onto-of source kept Y = refl
onto-of source kept Cb = refl
onto-of source kept Cr = refl

-- a place that fits is one whose sums stay
place-is : (t : Transform) (base level : List ℕ) (planes : Planes) (k : ℕ) → length planes.kept ≡ 4096 → length (sent planes) ≡ 4096 → k < 4096
    → place_fits t base level planes.kept (sent planes) k
    ≡ (is_coefficient (at (record_by t base level planes).sums k) && is_coefficient (at (record_by t base level planes).kept k +ℤ at (record_by t base level planes).sums k))
unfolding fits_at
place-is t base level planes k kept long h =
    let band : Band = band_at t k in
    let sum = at-by_band t (summed_at base level) (sent planes) k (omega arith) in
    let under = at-by_band t (λ band v. coefficient_of v (value_of base band)) planes.kept k (omega arith) in
    ap (λ z. is_coefficient z && is_coefficient (coefficient_of (at planes.kept k) (value_of base band) +ℤ z)) (sym sum)
    ∙ ap (λ z. is_coefficient (at (record_by t base level planes).sums k) && is_coefficient (z +ℤ at (record_by t base level planes).sums k)) (sym under)

and-both : (a b : Bool) → (a && b) ≡ true → (a ≡ true) × (b ≡ true)
and-both true b e = (refl, e)
and-both false b e = cc

and-one : (a b : Bool) → (a && b) ≡ false → (a ≡ false) ⊎ (b ≡ false)
and-one true b e = inr e
and-one false b e = inl refl

plane-stays : (t : Transform) (base level : List ℕ) (planes : Planes) → length planes.kept ≡ 4096 → length (sent planes) ≡ 4096 → PlaneFits t base level planes.kept (sent planes) 4096 → StaysWithin (record_by t base level planes)
plane-stays t base level planes kept long fits k h = and-both _ _ (sym (place-is t base level planes k kept long h) ∙ fits k h)

plane-leaves : (t : Transform) (base level : List ℕ) (planes : Planes) → length planes.kept ≡ 4096 → length (sent planes) ≡ 4096 → PlaneLeaves t base level planes.kept (sent planes) 4096
    → LeavesIt (record_by t base level planes).kept (at (record_by t base level planes).sums)
plane-leaves t base level planes kept long leaves =
    (leaves.0, leaves.1.0, and-one _ _ (sym (place-is t base level planes leaves.0 kept long leaves.1.0) ∙ leaves.1.1))

pub component-fits : (source kept : SourceTile) (component : Component) (result : Bool) → length (planes_of source component).own ≡ 4096 → length (planes_of kept component).own ≡ 4096
    → MatchBool result
    (LevelsFit component source.setting.transform (base_of component source.setting) source.setting.levels (planes_of kept component).own (less (planes_of source component).own (planes_of kept component).own) (length source.setting.levels + 1))
    (LevelsLeave component source.setting.transform (base_of component source.setting) source.setting.levels (planes_of kept component).own (less (planes_of source component).own (planes_of kept component).own) (length source.setting.levels + 1))
    → MatchBool result (ComponentFits (difference_of source kept) component) (ComponentLeaves (difference_of source kept) component)
component-fits source kept component result own other told = by result told
  where
    planes : Planes
    planes = onto (planes_of source component) (planes_of kept component)

    long : length (sent planes) ≡ 4096
    long = length-less _ _ (own ∙ sym other) ∙ own

    by : (result : Bool)
        → MatchBool result
        (LevelsFit component source.setting.transform (base_of component source.setting) source.setting.levels planes.kept (sent planes) (length source.setting.levels + 1))
        (LevelsLeave component source.setting.transform (base_of component source.setting) source.setting.levels planes.kept (sent planes) (length source.setting.levels + 1))
        → MatchBool result (ComponentFits (difference_of source kept) component) (ComponentLeaves (difference_of source kept) component)
    by true h = λ level listed.
        subst (λ p. StaysWithin (record_by source.setting.transform (base_of component source.setting) (left_out component source.setting.levels level) p)) (sym (onto-of source kept component))
        (plane-stays _ _ _ planes other long (h level (omega arith)))
    by false h =
        (h.0, (omega (arith, h.1.0), subst (λ p. LeavesIt (record_by source.setting.transform (base_of component source.setting) (left_out component source.setting.levels h.0) p).kept (at (record_by source.setting.transform (base_of component source.setting) (left_out component source.setting.levels h.0) p).sums)) (sym (onto-of source kept component)) (plane-leaves _ _ _ planes other long h.1.1)))

-- all three components
pub all-three : (P Q : Component → Type 0) (y cb cr : Bool) → MatchBool y (P Y) (Q Y) → MatchBool cb (P Cb) (Q Cb) → MatchBool cr (P Cr) (Q Cr) → MatchBool (y && cb && cr) ((component : Component) → P component) ((component : Component) × Q component)
all-three P Q true true true a b c = all
  where
    all : (component : Component) → P component
    all Y = a
    all Cb = b
    all Cr = c
all-three P Q false cb cr a b c = (Y, a)
all-three P Q true false cr a b c = (Cb, b)
all-three P Q true true false a b c = (Cr, c)

pub each-ten : (setting : Setting) → length setting.y.values ≡ 10 → length setting.cb.values ≡ 10 → length setting.cr.values ≡ 10 → (component : Component) → length (base_of component setting) ≡ 10
each-ten setting y cb cr Y = y
each-ten setting y cb cr Cb = cb
each-ten setting y cb cr Cr = cr
