-- A tile's record ([MS-RDPEGFX], the progressive codec; difference tiles are this project's own rule).
use Rattle.std.specs.Prelude.{ℕ, ℤ, List, ◌≡◌, ◌⊎◌, Option, Some, None, Result, Ok, Err, Bool, true, false}
use Rattle.gfx_base.specs.declared.refusal.Refusal.{Refusal}
use Rattle.gfx_base.specs.declared.refusal.Refusal.TheVariants.{TransformChanged, QualityWorse}
use Rattle.gfx_dwt.specs.declared.layout.Transform.{Transform}
use Rattle.gfx_dwt.specs.declared.layout.Transform.TheVariants.{Plain, Reduced}
use Rattle.gfx_quant.specs.declared.quant.Component.{Component}
use Rattle.gfx_quant.specs.declared.quant.Component.TheVariants.{Y, Cb, Cr}
use Rattle.gfx_base.specs.declared.pixel.Pixel.{Pixel}
use Rattle.gfx_bits.specs.Bits.{bits_of}
use Rattle.gfx_dwt.specs.Samples.{sample}
use Rattle.gfx_quant.specs.Colour.{colour_of}
use Rattle.gfx_tile_state.specs.Entries.{Pass, pass_of}
use Rattle.gfx_tile_state.specs.Passes.{Part, TakesFirst, Upgrades, coefficients, fresh, made}
use Rattle.gfx_tile_state.specs.Shapes.{positions_of}
use Rattle.gfx_tile_state.specs.Shape.{AreBelow, SomeAbove}
use Rattle.gfx_tile_state.specs.declared.state.TileState.{TileState}
use Rattle.gfx_tile_state.specs.declared.shape.PassShape.{PassShape}

-- a record before its first pass
abbrev pub fresh_tile : TileState
fresh_tile = record { transform = None; y = fresh; cb = fresh; cr = fresh }

-- a component of a record
abbrev pub part_of : TileState → Component → Part
part_of tile Y = tile.y
part_of tile Cb = tile.cb
part_of tile Cr = tile.cr

-- the other components stay as they are
abbrev pub OthersStay : Component → TileState → TileState → Type 0
OthersStay Y old new = (new.cb ≡ old.cb) × (new.cr ≡ old.cr)
OthersStay Cb old new = (new.y ≡ old.y) × (new.cr ≡ old.cr)
OthersStay Cr old new = (new.y ≡ old.y) × (new.cb ≡ old.cb)

-- whether the last first pass, if there was one, had this transform
abbrev pub fits_transform : Option Transform → Transform → Bool
fits_transform None t = true
fits_transform (Some Plain) Plain = true
fits_transform (Some Plain) Reduced = false
fits_transform (Some Reduced) Plain = false
fits_transform (Some Reduced) Reduced = true

-- the transform by which a record is shown: before a first pass all is zero by either
abbrev pub transform_of : Option Transform → Transform
transform_of None = Plain
transform_of (Some t) = t

-- what is answered to a difference tile of a transform
abbrev pub MayAdd : Result (Unit {0}) Refusal → TileState → Transform → Type 0
MayAdd (Ok done) tile t = fits_transform tile.transform t ≡ true
MayAdd (Err refusal) tile t = (refusal ≡ TransformChanged) × (fits_transform tile.transform t ≡ false)

-- a record that an upgrade of this shape may follow
pub record MayBeUpgraded (tile : TileState) (shape : PassShape) : Type 0 where
  pub same : fits_transform tile.transform shape.transform ≡ true
  pub y_falls : AreBelow shape.y tile.y.positions
  pub cb_falls : AreBelow shape.cb tile.cb.positions
  pub cr_falls : AreBelow shape.cr tile.cr.positions

-- what is answered to an upgrade of a shape: the transform is looked at first
abbrev pub MayUpgrade : Result (Unit {0}) Refusal → TileState → PassShape → Type 0
MayUpgrade (Ok done) tile shape = MayBeUpgraded tile shape
MayUpgrade (Err refusal) tile shape =
    ((refusal ≡ TransformChanged) × (fits_transform tile.transform shape.transform ≡ false))
    ⊎ ((refusal ≡ QualityWorse) × (fits_transform tile.transform shape.transform ≡ true)
    × (SomeAbove shape.y tile.y.positions ⊎ (SomeAbove shape.cb tile.cb.positions ⊎ SomeAbove shape.cr tile.cr.positions)))

-- a first pass of one component over a kept plane; the other components stay
abbrev pub StartsIn : Result (Unit {0}) Refusal → Component → List ℕ → PassShape → List ℤ → TileState → TileState → Type 0
StartsIn result component bytes shape kept old new =
    TakesFirst result shape.transform (positions_of shape component) bytes kept (part_of old component) (part_of new component) × OthersStay component old new

-- the upgrade of one component by these bytes
abbrev pub upgrade_of : TileState → Component → PassShape → List ℕ → List ℕ → Pass
upgrade_of tile component shape srl raw =
    pass_of shape.transform (part_of tile component).positions (positions_of shape component) (part_of tile component).sums (bits_of srl) (bits_of raw)

-- an upgrade of one component; the other components and the transform stay
abbrev pub UpgradesIn : Result (Unit {0}) Refusal → Component → List ℕ → List ℕ → PassShape → TileState → TileState → Type 0
UpgradesIn result component srl raw shape old new =
    Upgrades result (upgrade_of old component shape srl raw) (positions_of shape component) (part_of old component) (part_of new component)
    × OthersStay component old new
    × (new.transform ≡ old.transform)

-- the upgrade of a component of another record, made in this one; the other components stay
abbrev pub UpgradesFrom : Result (Unit {0}) Refusal → Component → List ℕ → List ℕ → PassShape → TileState → TileState → TileState → Type 0
UpgradesFrom result component srl raw shape before old new =
    Upgrades result (upgrade_of before component shape srl raw) (positions_of shape component) (part_of before component) (made result (part_of before component) (part_of new component))
    × OthersStay component old new

-- the pixel of a row and a column: the colour of the samples of the record's coefficients
abbrev pub pixel_of : TileState → ℕ → ℕ → Pixel
pixel_of tile y x =
    let t = transform_of tile.transform in
    colour_of (sample t (coefficients tile.y) y x) (sample t (coefficients tile.cb) y x) (sample t (coefficients tile.cr) y x)
