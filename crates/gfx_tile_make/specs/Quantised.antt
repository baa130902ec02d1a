-- The values that a tile's pixels are quantised to ([MS-RDPRFX] 3.1.8.2.3 to 3.1.8.2.5, [MS-RDPEGFX] for reduce-extrapolate).
use Rattle.std.specs.Prelude.{ℕ, ◌-◌, ◌/◌, ◌%◌, ℤ, List, map}
use Rattle.std.specs.List.{range_with_len}
use Rattle.gfx_base.specs.declared.pixel.Pixel.{Pixel}
use Rattle.gfx_dwt.specs.declared.layout.Transform.{Transform}
use Rattle.gfx_dwt.specs.declared.layout.Band.{Band}
use Rattle.gfx_dwt.specs.Coefficients.{transformed}
use Rattle.gfx_dwt.specs.Place.{columns, start}
use Rattle.gfx_quant.specs.declared.quant.Component.{Component}
use Rattle.gfx_quant.specs.declared.quant.Component.TheVariants.{Y, Cb, Cr}
use Rattle.gfx_quant.specs.declared.rounding.Rounding.{Rounding}
use Rattle.gfx_quant.specs.declared.setting.Setting.{Setting}
use Rattle.gfx_quant.specs.Coefficient.{cut, quantised}
use Rattle.gfx_quant.specs.Colour.{luma, chroma_blue, chroma_red}
use Rattle.gfx_quant.specs.Quant.{value_of}
use Rattle.gfx_quant.specs.Setting.{base_of}
use Rattle.gfx_tile_state.specs.Entries.{band_at}

-- a component's sample of a pixel
abbrev pub sample_of : Component → Pixel → ℤ
sample_of Y = luma
sample_of Cb = chroma_blue
sample_of Cr = chroma_red

-- the value of a place i of a band: its coefficient, cut to 16 bits, by the base of its band
unfoldable pub quantised_in : Rounding → Transform → List ℕ → List ℤ → Band → ℕ → ℤ
quantised_in rounding t base samples band i =
    quantised rounding band (cut (transformed t samples band (i / columns t band) (i % columns t band))) (value_of base band)

-- the value of a place of the plane
unfoldable pub quantised_at : Rounding → Transform → List ℕ → List ℤ → ℕ → ℤ
quantised_at rounding t base samples k = quantised_in rounding t base samples (band_at t k) (k - start t (band_at t k))

-- the values of some samples, row by row
unfoldable pub quantised_samples : Rounding → Transform → List ℕ → List ℤ → List ℤ
quantised_samples rounding t base samples = map (quantised_at rounding t base samples) (range_with_len 0 4096)

-- the quantised values of a component of a tile
abbrev pub quantised_plane : Setting → Component → List Pixel → List ℤ
quantised_plane setting component pixels = quantised_samples setting.rounding setting.transform (base_of component setting) (map (sample_of component) pixels)
