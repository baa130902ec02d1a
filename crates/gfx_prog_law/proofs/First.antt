-- What a client makes of the codes of a tile at the first level.
use Rattle.std.proofs.Common.{◌≡◌, ◌≤◌, ◌∙◌, ℕ, ℤ, List, Ok, length, refl, sym, subst, arith}
use Rattle.gfx_dwt.specs.declared.layout.Transform.{Transform}
use Rattle.gfx_quant.specs.declared.quant.Component.{Component}
use Rattle.gfx_quant.specs.Coefficient.{truncated}
use Rattle.gfx_quant.specs.Planes.{Dequantises}
use Rattle.gfx_quant.specs.Quant.{value_of}
use Rattle.gfx_quant.specs.Setting.{base_of, left_out}
use Rattle.std.proofs.lemmas.List.Sums.{list_all-from_AllPass}
use Rattle.gfx_rlgr.specs.Rlgr.{Rlgr, in_range}
use Rattle.gfx_rlgr.proofs.Bound.{short-code}
use Rattle.gfx_rlgr.proofs.RoundTrip.{written-says}
use Rattle.gfx_rlgr.proofs.Writes.{always-written}
use Rattle.gfx_tile_make.proofs.Differing.{AreFirst, all-in-range, all-small}
use Rattle.gfx_prog_encode.specs.Messages.{first_code}
use Rattle.gfx_tile_state.specs.Making.{first_part}
use Rattle.gfx_tile_state.proofs.Making.{first-is}
use Rattle.gfx_tile_make.specs.Levels.{MayBeSent, StaysWithin, first_values, positions_at, record_at, record_by, summed_at, truncated_plane, values_at}
use Rattle.gfx_tile_make.specs.Source.{Planes, SourceTile, planes_of, sent}
use Rattle.gfx_tile_make.proofs.ByBand.{length-by_band}
use Rattle.gfx_tile_make.proofs.Records.{summed-first, values-have}
use Rattle.gfx_tile_make.proofs.Sources.{sent-whole}

-- a code of a level's first values leaves the record of the level
first-made : (t : Transform) (base level bytes : List ℕ) (planes : Planes) → length (sent planes) ≡ 4096 → StaysWithin (record_by t base level planes)
    → Rlgr bytes (Ok (first_values t (truncated_plane t level (sent planes))))
    → first_part t (positions_at base level) bytes (record_by t base level planes).kept ≡ Ok (record_by t base level planes)
first-made t base level bytes planes long stays code =
    let values : List ℤ = truncated_plane t level (sent planes) in
    let whole : length values ≡ 4096 = length-by_band t (λ band v. truncated band v (value_of level band)) (sent planes) ∙ long in
    let made : Dequantises t (positions_at base level) values (record_by t base level planes).sums = λ band k lies. values-have t base level planes band k long stays lies in
    first-is (Ok tt) t (positions_at base level) bytes (record_by t base level planes).kept (record_by t base level planes) (record_by t base level planes) (
      first_values t values,
      code,
      subst (λ l. Dequantises t (positions_at base level) l (record_by t base level planes).sums) (sym (summed-first t values whole)) made,
      refl,
      refl,
      length-by_band t (summed_at base level) (sent planes) ∙ long,
      stays,
    )

pub first-left : (source : SourceTile) (component : Component) (bytes : List ℕ) → MayBeSent source → Rlgr bytes (Ok (first_values source.setting.transform (values_at source component 0)))
    → first_part source.setting.transform (record_at source component 0).positions bytes (record_at source component 0).kept ≡ Ok (record_at source component 0)
first-left source component bytes may code =
    first-made source.setting.transform (base_of component source.setting) (left_out component source.setting.levels 0) bytes (planes_of source component) (sent-whole source component may) (may.fits component 0 (omega arith)) code

-- so do the codes that a server writes, and they fit a tile's lengths
abbrev values-due : SourceTile → Component → List ℤ
values-due source component = first_values source.setting.transform (values_at source component 0)

pub first-read : (source : SourceTile) (component : Component) → MayBeSent source → AreFirst (values-due source component)
    → first_part source.setting.transform (record_at source component 0).positions (first_code source component) (record_at source component 0).kept ≡ Ok (record_at source component 0)
first-read source component may are =
    first-left source component (first_code source component) may
    (written-says (values-due source component) (first_code source component) are.all (list_all-from_AllPass in_range (values-due source component) (all-in-range (values-due source component) are)) (always-written (values-due source component) are.all))

pub first-short : (source : SourceTile) (component : Component) → AreFirst (values-due source component) → length (first_code source component) ≤ 65535
first-short source component are =
    short-code (values-due source component) (first_code source component) are.all (all-small (values-due source component) are) (always-written (values-due source component) are.all)
