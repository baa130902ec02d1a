-- What is sent of a tile at a level, and the record that it leaves ([MS-RDPEGFX], the progressive codec; the kept plane is this project's own rule).
use Rattle.std.specs.Prelude.{ℕ, ◌+◌, ◌<◌, ◌≤◌, ◌≡◌, ℤ, pos, ◌+ℤ◌, true, List, ◌++◌, length, map, take, drop, Some}
use Rattle.gfx_base.specs.declared.pixel.Pixel.{Pixel}
use Rattle.gfx_dwt.specs.declared.layout.Transform.{Transform}
use Rattle.gfx_dwt.specs.declared.layout.Band.{Band}
use Rattle.gfx_dwt.specs.declared.layout.Band.TheVariants.{Ll3}
use Rattle.gfx_dwt.specs.Place.{bands, start}
use Rattle.gfx_dwt.specs.Ranges.{at}
use Rattle.gfx_dwt.specs.Samples.{sample}
use Rattle.gfx_quant.specs.declared.quant.Component.{Component}
use Rattle.gfx_quant.specs.declared.quant.Component.TheVariants.{Y, Cb, Cr}
use Rattle.gfx_quant.specs.Coefficient.{coefficient_of, is_coefficient, truncated}
use Rattle.gfx_quant.specs.Colour.{colour_of}
use Rattle.gfx_quant.specs.Quant.{value_of}
use Rattle.gfx_quant.specs.Setting.{base_of, is_accepted, left_out}
use Rattle.gfx_tile_state.specs.declared.shape.PassShape.{PassShape}
use Rattle.gfx_tile_state.specs.declared.state.TileState.{TileState}
use Rattle.gfx_tile_state.specs.Passes.{Part, LeavesIt}
use Rattle.gfx_tile_state.specs.Record.{pixel_of}
use Rattle.gfx_tile_state.specs.Shape.{AreWithin}
use Rattle.gfx_tile_state.specs.Shapes.{positions_of}
use Rattle.gfx_tile_make.specs.Planes.{by_band, differences}
use Rattle.gfx_tile_make.specs.Source.{Planes, SourceTile, planes_of, sent}

-- values without the low bits that a level leaves out
abbrev pub truncated_plane : Transform → List ℕ → List ℤ → List ℤ
truncated_plane t level values = by_band t (λ band v. truncated band v (value_of level band)) values

-- a component's values at a level
abbrev pub values_at : SourceTile → Component → ℕ → List ℤ
values_at source component level =
    truncated_plane source.setting.transform (left_out component source.setting.levels level) (sent (planes_of source component))

-- what a first tile codes: LL3 as differences
abbrev pub first_values : Transform → List ℤ → List ℤ
first_values t values = take (start t Ll3) values ++ differences (pos 0) (drop (start t Ll3) values)

-- the coefficients that quantised values stand for
abbrev pub direct_plane : Transform → List ℕ → List ℤ → List ℤ
direct_plane t base values = by_band t (λ band v. coefficient_of v (value_of base band)) values

-- the bit positions of a level: in each band its base and what the level leaves out
abbrev pub positions_at : List ℕ → List ℕ → List ℕ
positions_at base level = map (λ band. value_of base band + value_of level band) bands

-- what a value of a band is in the sums at a level
abbrev pub summed_at : List ℕ → List ℕ → Band → ℤ → ℤ
summed_at base level band v = coefficient_of (truncated band v (value_of level band)) (value_of base band + value_of level band)

-- a component's record at a level, by its base, what the level leaves out, and its planes
abbrev pub record_by : Transform → List ℕ → List ℕ → Planes → Part
record_by t base level planes = record {
  kept = direct_plane t base planes.kept;
  sums = by_band t (summed_at base level) (sent planes);
  positions = positions_at base level;
}

-- a component's record at a level
abbrev pub record_at : SourceTile → Component → ℕ → Part
record_at source component level =
    record_by source.setting.transform (base_of component source.setting) (left_out component source.setting.levels level) (planes_of source component)

-- a tile's record at a level
abbrev pub tile_at : SourceTile → ℕ → TileState
tile_at source level = record {
  transform = Some source.setting.transform;
  y = record_at source Y level;
  cb = record_at source Cb level;
  cr = record_at source Cr level;
}

-- a pass of this shape goes to a level of a tile
pub record ShapeIs (source : SourceTile) (level : ℕ) (shape : PassShape) : Type 0 where
  pub transform_is : shape.transform ≡ source.setting.transform
  pub positions_are : (component : Component) → positions_of shape component ≡ (record_at source component level).positions

-- the pixel that a tile's record shows at a level
abbrev pub shown_at : SourceTile → ℕ → ℕ → ℕ → Pixel
shown_at source level y x = pixel_of (tile_at source level) y x

-- the pixel of a tile's own values, whatever it goes on
abbrev pub direct_pixel : SourceTile → ℕ → ℕ → Pixel
direct_pixel source y x =
    let t = source.setting.transform in
    let samples : Component → ℤ = λ component. sample t (direct_plane t (base_of component source.setting) (planes_of source component).own) y x in
    colour_of (samples Y) (samples Cb) (samples Cr)

-- the sums of a record, and what they make of its kept plane, are in the 16-bit range
abbrev pub StaysWithin : Part → Type 0
StaysWithin part = (k : ℕ) → k < 4096 → (is_coefficient (at part.sums k) ≡ true) × (is_coefficient (at part.kept k +ℤ at part.sums k) ≡ true)

-- so it is with a component at each level, up to the one behind the listed ones
abbrev pub ComponentFits : SourceTile → Component → Type 0
ComponentFits source component = (level : ℕ) → level ≤ length source.setting.levels → StaysWithin (record_at source component level)

-- or at some level it isn't
abbrev pub ComponentLeaves : SourceTile → Component → Type 0
ComponentLeaves source component =
    (level : ℕ) × ((level ≤ length source.setting.levels) × LeavesIt (record_at source component level).kept (at (record_at source component level).sums))

-- the record of a tile is in range at each level
abbrev pub Fits : SourceTile → Type 0
Fits source = (component : Component) → ComponentFits source component

-- or in some component it isn't
abbrev pub Leaves : SourceTile → Type 0
Leaves source = (component : Component) × ComponentLeaves source component

-- a tile that may be sent: an accepted setting, bases in range, whole planes, and a record that is in range at each level
pub record MayBeSent (source : SourceTile) : Type 0 where
  pub accepted : is_accepted source.setting ≡ true
  pub bases : (component : Component) → AreWithin 6 15 (base_of component source.setting)
  pub own : (component : Component) → length (planes_of source component).own ≡ 4096
  pub kept : (component : Component) → length (planes_of source component).kept ≡ 4096
  pub fits : Fits source
