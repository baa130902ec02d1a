-- The one message of a picture that goes whole, uncompressed or as a ClearCodec stream ([MS-RDPEGFX] 2.2.2.1 and 2.2.4). It
-- goes by a layer of ClearCodec, or by none; which paint goes by which is this project's own rule (gfx_script/specs/Ways).
use Rattle.std.specs.Prelude.{ℕ, List, [], ◌∷◌, Option, Some, None}
use Rattle.gfx_base.specs.Format.{byte_of}
use Rattle.gfx_base.specs.declared.geometry.Point.{Point}
use Rattle.gfx_base.specs.declared.pixel.Pixel.{Pixel}
use Rattle.gfx_clear.specs.declared.layer.Layer.{Layer}
use Rattle.gfx_clear.specs.State.{ClearState}
use Rattle.gfx_clear.specs.Sending.{sent as stream_sent}
use Rattle.gfx_pdu.specs.declared.pdu.Pdu.{Pdu}
use Rattle.gfx_pdu.specs.declared.pdu.Pdu.TheVariants.{WireToSurface1}
use Rattle.gfx_script.specs.declared.picture.Picture.{Picture as Source}
use Rattle.gfx_script.specs.Writes.{place_of}
use Rattle.gfx_pdu.specs.Codecs.{id_of}
use Rattle.gfx_pdu.specs.declared.codec.Codec.{Codec}
use Rattle.gfx_pdu.specs.declared.codec.Codec.TheVariants.{Uncompressed, ClearCodec}
use Rattle.gfx_surface.specs.Picture.{Picture}
use Rattle.gfx_planner.specs.Pixels.{pixels_in, colours_in}

-- pixels as they stand in uncompressed data ([MS-RDPEGFX] 2.2.4, RDPGFX_CODECID_UNCOMPRESSED): blue, green, red and alpha
-- of each
unfoldable pub raw_bytes : List Pixel → List ℕ
raw_bytes [] = []
raw_bytes (pixel ∷ pixels) = pixel.b ∷ pixel.g ∷ pixel.r ∷ pixel.a ∷ raw_bytes pixels

-- the codec of a picture that goes by a layer, or by none
abbrev pub codec_by : Option Layer → Codec
codec_by None = Uncompressed
codec_by (Some layer) = ClearCodec

-- its data: uncompressed, or a ClearCodec stream ([MS-RDPEGFX] 2.2.4.1), which goes on from the streams before it, with the
-- index of a glyph if it has one
abbrev pub data_by : Option Layer → ClearState → Option ℕ → Source → List ℕ
data_by None clear glyph picture = raw_bytes (pixels_in picture)
data_by (Some layer) clear glyph picture = (stream_sent clear layer glyph picture.width picture.height (colours_in picture)).bytes

-- the message that paints it on a surface, its top left corner at a place, in the format of the surface
abbrev pub paint_message : Option Layer → ClearState → Option ℕ → Picture → Source → ℕ → Point → Pdu
paint_message layer clear glyph surface picture id at =
    WireToSurface1 id (id_of (codec_by layer)) (byte_of surface.format) (place_of picture at) (data_by layer clear glyph picture)

-- the same by a surface and a picture that may be missing: then there is none
unfoldable pub painting : Option Layer → ClearState → Option Picture → Option Source → Option ℕ → ℕ → Point → Option Pdu
painting layer clear (Some surface) (Some picture) glyph id at = Some (paint_message layer clear glyph surface picture id at)
painting layer clear surface picture glyph id at = None
