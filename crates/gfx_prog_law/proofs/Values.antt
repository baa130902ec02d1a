-- The values of a tile at the first level are small.
use Rattle.std.proofs.Common.{◌≡◌, ◌∙◌, ℕ, ◌<◌, ◌≤◌, ℤ, pos, List, ◌++◌, length, take, drop, sym, subst, arith}
use Rattle.std.proofs.lemmas.List.{length-take, take-append-drop}
use Rattle.gfx_dwt.specs.declared.layout.Transform.{Transform}
use Rattle.gfx_dwt.specs.declared.layout.Band.TheVariants.{Ll3}
use Rattle.gfx_dwt.specs.Place.{start}
use Rattle.gfx_dwt.specs.Ranges.{Within, at}
use Rattle.gfx_quant.specs.declared.quant.Component.{Component}
use Rattle.gfx_quant.specs.Coefficient.{truncated}
use Rattle.gfx_quant.specs.Quant.{value_of}
use Rattle.gfx_quant.specs.Setting.{left_out}
use Rattle.gfx_quant.proofs.Smaller.{truncated_within}
use Rattle.gfx_tile_state.specs.Entries.{band_at}
use Rattle.gfx_tile_make.specs.Planes.{differences}
use Rattle.gfx_tile_make.specs.Source.{SourceTile, planes_of, sent}
use Rattle.gfx_tile_make.specs.Levels.{MayBeSent, first_values, truncated_plane, values_at}
use Rattle.gfx_tile_make.proofs.ByBand.{at-by_band, length-by_band}
use Rattle.gfx_tile_make.proofs.Differing.{AreFirst, are-first, low-starts}
use Rattle.gfx_tile_make.proofs.Sources.{sent-whole, sent-within}

-- no value grows where its low bits are left out
truncated-small : (t : Transform) (level : List ℕ) (values : List ℤ) (k : ℕ) → k < length values → Within 1024 (at values k) → Within 1024 (at (truncated_plane t level values) k)
truncated-small t level values k h small =
    subst (Within 1024) (sym (at-by_band t (λ band v. truncated band v (value_of level band)) values k h))
    (truncated_within (band_at t k) 1024 (at values k) (value_of level (band_at t k)) small)

-- small values from some place on as differences
halves-first : (n : ℕ) (values : List ℤ) → 4015 ≤ n → length values ≡ 4096 → ((k : ℕ) → k < length values → Within 1024 (at values k)) → AreFirst (take n values ++ differences (pos 0) (drop n values))
halves-first n values far long small =
    are-first (take n values) (drop n values) values (sym (take-append-drop n values)) long (omega (arith, length-take n values)) small

-- what a first tile codes of a component
pub first-due : (source : SourceTile) (component : Component) → MayBeSent source → AreFirst (first_values source.setting.transform (values_at source component 0))
first-due source component may =
    let t : Transform = source.setting.transform in
    let level : List ℕ = left_out component source.setting.levels 0 in
    let values : List ℤ = sent (planes_of source component) in
    let whole : length values ≡ 4096 = sent-whole source component may in
    let long : length (truncated_plane t level values) ≡ 4096 = length-by_band t (λ band v. truncated band v (value_of level band)) values ∙ whole in
    halves-first (start t Ll3) (truncated_plane t level values) (low-starts t) long
    (λ k h. truncated-small t level values k (omega (arith, long, whole, h)) (sent-within source component k may (omega (arith, long, h))))
