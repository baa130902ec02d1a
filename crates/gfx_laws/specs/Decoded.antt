-- What pixels come to that are quantised and decoded at once ([MS-RDPRFX] 3.1.8.2, and [MS-RDPEGFX] for the reduced
-- transform), in other words than those by which tiles are made and shown: this project's own promise.
use Rattle.std.specs.Prelude.{◌≡◌, ◌/◌, ◌%◌, ℕ, ℤ, List}
use Rattle.gfx_base.specs.declared.geometry.Point.{Point}
use Rattle.gfx_base.specs.declared.pixel.Pixel.{Pixel}
use Rattle.gfx_dwt.specs.Samples.{sample}
use Rattle.gfx_quant.specs.declared.quant.Component.{Component}
use Rattle.gfx_quant.specs.declared.quant.Component.TheVariants.{Y, Cb, Cr}
use Rattle.gfx_quant.specs.declared.setting.Setting.{Setting}
use Rattle.gfx_quant.specs.Colour.{colour_of}
use Rattle.gfx_quant.specs.Setting.{base_of}
use Rattle.gfx_script.specs.declared.picture.Picture.{Picture as Source}
use Rattle.gfx_tile_make.specs.Levels.{direct_plane}
use Rattle.gfx_tile_make.specs.Quantised.{quantised_plane}
use Rattle.gfx_laws.specs.PassesShown.{AreNearest}

-- the samples of planes of quantised values: each value scaled by its quant, and transformed back
abbrev pub samples_of : Setting → (Component → List ℤ) → ℕ → ℕ → Component → ℤ
samples_of setting planes y x component = sample setting.transform (direct_plane setting.transform (base_of component setting) (planes component)) y x

-- their colour at column x of row y of a cell
abbrev pub decoded_from : Setting → (Component → List ℤ) → ℕ → ℕ → Pixel
decoded_from setting planes y x = colour_of (samples_of setting planes y x Y) (samples_of setting planes y x Cb) (samples_of setting planes y x Cr)

-- the direct decoding of a cell's pixels, which are quantised
abbrev pub decoded : Setting → List Pixel → ℕ → ℕ → Pixel
decoded setting pixels y x = decoded_from setting (λ component. quantised_plane setting component pixels) y x

-- a pixel at column x of row y is the direct decoding of its cell, whose pixels are the nearest ones of a picture at a place
pub record IsDecoded (setting : Setting) (source : Source) (at : Point) (x y : ℕ) (pixel : Pixel) : Type 0 where
  pub pixels : List Pixel
  pub nearest : AreNearest source at (x / 64) (y / 64) pixels
  pub is : pixel ≡ decoded setting pixels (y % 64) (x % 64)
