-- What a picture costs by each kind that it may go as: how many bytes the data of its paint have ([MS-RDPEGFX] 2.2.2.1,
-- bitmapData), where it has no glyph. Bands and passes are reckoned nearly, by this project's own rule.
use Rattle.std.specs.Prelude.{ℕ, ◌*◌, length, None}
use Rattle.gfx_base.specs.declared.pixel.TheConstants.{BYTES_PER_PIXEL}
use Rattle.gfx_chooser.specs.Facts.{colours_in}
use Rattle.gfx_clear.specs.declared.layer.Layer.{Layer}
use Rattle.gfx_clear.specs.declared.layer.Layer.TheVariants.{Residual, Palette, Plain}
use Rattle.gfx_clear.specs.Sending.{sent}
use Rattle.gfx_clear.specs.State.{ClearState, fresh}
use Rattle.gfx_script.specs.declared.picture.Picture.{Picture}
use Rattle.gfx_estimate.specs.declared.sizes.Sizes.{Sizes}
use Rattle.gfx_estimate.specs.Bands.{bands_size}
use Rattle.gfx_estimate.specs.Passes.{passes_size}

-- uncompressed
abbrev pub raw_size : Picture → ℕ
raw_size picture = BYTES_PER_PIXEL * (picture.width * picture.height)

-- by a layer of ClearCodec, as a stream that goes on from those before it
abbrev pub layer_size : ClearState → Layer → Picture → ℕ
layer_size clear layer picture = length (sent clear layer None picture.width picture.height (colours_in picture)).bytes

-- by each kind; streams are the first of their client, which only bands tell from others
unfoldable pub sizes_of : Picture → Sizes
sizes_of picture = record {
  raw = raw_size picture;
  residual = layer_size fresh Residual picture;
  palette = layer_size fresh Palette picture;
  plain = layer_size fresh Plain picture;
  bands = bands_size picture;
  passes = passes_size picture;
}
