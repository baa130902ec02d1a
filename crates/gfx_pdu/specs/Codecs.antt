-- The codecs of the messages that carry data of a picture, by their ids ([MS-RDPEGFX] 2.2.2.1 and 2.2.2.2, codecId).
use Rattle.std.specs.Prelude.{ℕ, ◌==◌, Option, Some, None, if◌then◌else◌}
use Rattle.gfx_pdu.specs.declared.codec.Codec.{Codec}
use Rattle.gfx_pdu.specs.declared.codec.Codec.TheVariants.{Uncompressed, Video, ClearCodec}

-- RDPGFX_CODECID_UNCOMPRESSED
abbrev pub UNCOMPRESSED : ℕ
UNCOMPRESSED = 0

-- RDPGFX_CODECID_CAVIDEO
abbrev pub VIDEO : ℕ
VIDEO = 3

-- RDPGFX_CODECID_CLEARCODEC
abbrev pub CLEAR_CODEC : ℕ
CLEAR_CODEC = 8

-- RDPGFX_CODECID_CAPROGRESSIVE, the one codec of RDPGFX_WIRE_TO_SURFACE_PDU_2 that is built
abbrev pub PROGRESSIVE : ℕ
PROGRESSIVE = 9

-- the codec of an id, if it is built
unfoldable pub codec_of : ℕ → Option Codec
codec_of id =
    if id == UNCOMPRESSED then Some Uncompressed else if id == VIDEO then Some Video else if id == CLEAR_CODEC then Some ClearCodec else None

-- the id of a codec
abbrev pub id_of : Codec → ℕ
id_of Uncompressed = UNCOMPRESSED
id_of Video = VIDEO
id_of ClearCodec = CLEAR_CODEC
