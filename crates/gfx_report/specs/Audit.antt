-- The texts of an audit, as lists of bytes: a line for each message, and at the end what the cache of bitmaps, the
-- ClearCodec decoder and the tiles hold. They are this project's own rule.
use Rattle.std.specs.Prelude.{ℕ, List, ◌++◌, codes, decimal, is_some, count_by}
use Rattle.std.specs.Int.{w64, to_be_bytes}
use Rattle.std.specs.List.{flat_map, range_with_len}
use Rattle.std.specs.FinMap.{entries, len}
use Rattle.gfx_pdu.specs.declared.id.Id.{Id}
use Rattle.gfx_pdu.specs.declared.id.Id.TheVariants as ids
use Rattle.gfx_bitmap_cache.specs.Slots.{Entry}
use Rattle.gfx_clear_store.specs.Rings.{Slot, Places, Rings}
use Rattle.gfx_glyph.specs.Glyphs.{Slot as GlyphSlot, slot_at}
use Rattle.gfx_glyph.specs.declared.glyphs.TheConstants.{PLACES}
use Rattle.gfx_report.specs.StateBytes.{Slots, pixels_bytes, ring_bytes, glyphs_bytes}
use Rattle.gfx_report.specs.Texts.{newline, sides_text}
use Rattle.hex.specs.Hex.{encode_lower}
use Rattle.sha2.specs.Sha256.{sha256}

-- the name of a message ([MS-RDPEGFX] 2.2.2), without its frame
abbrev pub message_name : Id → List ℕ
message_name ids.WireToSurface1 = codes "WireToSurface1"
message_name ids.WireToSurface2 = codes "WireToSurface2"
message_name ids.DeleteEncodingContext = codes "DeleteEncodingContext"
message_name ids.SolidFill = codes "SolidFill"
message_name ids.SurfaceToSurface = codes "SurfaceToSurface"
message_name ids.SurfaceToCache = codes "SurfaceToCache"
message_name ids.CacheToSurface = codes "CacheToSurface"
message_name ids.EvictCacheEntry = codes "EvictCacheEntry"
message_name ids.CreateSurface = codes "CreateSurface"
message_name ids.DeleteSurface = codes "DeleteSurface"
message_name ids.StartFrame = codes "StartFrame"
message_name ids.EndFrame = codes "EndFrame"
message_name ids.ResetGraphics = codes "ResetGraphics"
message_name ids.MapSurfaceToOutput = codes "MapSurfaceToOutput"
message_name ids.CapsConfirm = codes "CapsConfirm"

-- the line of a message: its number, its name and its size in bytes, as in `1 StartFrame 16`
unfoldable pub audit_line : ℕ → Id → ℕ → List ℕ
audit_line number id size =
    decimal number ++ (codes " " ++ (message_name id ++ (codes " " ++ (decimal size ++ newline))))

-- a key in sixteen lower-case hexadecimal digits, the highest first
abbrev pub key_digits : ℕ → List ℕ
key_digits key = encode_lower (to_be_bytes w64 key)

-- how many slots are filled, as in `slots 1`
unfoldable pub slots_line : Slots → List ℕ
slots_line slots = codes "slots " ++ (decimal (len slots) ++ newline)

-- a filled slot: its number, its sides, its key and the digest of its pixels, as in
-- `slot 1 2x2 <16 digits> <64 digits>`
unfoldable pub slot_line : ℕ → Entry → List ℕ
slot_line slot held =
    codes "slot " ++ (decimal slot ++ (codes " " ++ (sides_text held.image.width held.image.height ++ (codes " " ++ (key_digits held.key ++ (codes " " ++ (encode_lower (sha256 (pixels_bytes held.image.pixels)) ++ newline)))))))

-- the filled slots, ascending
unfoldable pub slot_lines : Slots → List ℕ
slot_lines slots = flat_map (λ held. slot_line held.0 held.1) (entries slots)

-- how many there are, and the digest of their bytes
abbrev pub held_text : ℕ → List ℕ → List ℕ
held_text count digest = decimal count ++ (codes " " ++ (encode_lower digest ++ newline))

-- how many places of a ring hold something
abbrev pub places_held : List Slot → ℕ
places_held slots = count_by is_some slots

-- a ring: its cursor, how many of its places hold something, and the digest of what they hold
abbrev pub ring_text : Places → List ℕ
ring_text ring = decimal ring.cursor ++ (codes " " ++ held_text (places_held ring.slots) (sha256 (ring_bytes 0 ring.slots)))

-- the bars, as in `bars 3 3 <64 digits>`
unfoldable pub bars_line : Rings → List ℕ
bars_line rings = codes "bars " ++ ring_text rings.bars

-- the shorts, as in `shorts 3 3 <64 digits>`
unfoldable pub shorts_line : Rings → List ℕ
shorts_line rings = codes "shorts " ++ ring_text rings.shorts

-- how many of so many indices hold a glyph
unfoldable pub glyphs_held : ℕ → List GlyphSlot → ℕ
glyphs_held count glyphs = count_by (λ index. is_some (slot_at glyphs index)) (range_with_len 0 count)

-- the glyphs: how many there are, and the digest of their bytes, as in `glyphs 1 <64 digits>`
unfoldable pub glyphs_line : List GlyphSlot → List ℕ
glyphs_line glyphs = codes "glyphs " ++ held_text (glyphs_held PLACES glyphs) (sha256 (glyphs_bytes PLACES glyphs))

-- how many tiles there are, as in `tiles 2`
unfoldable pub tiles_line : ℕ → List ℕ
tiles_line count = codes "tiles " ++ (decimal count ++ newline)

-- the slots: how many are filled, and these
unfoldable pub slots_text : Slots → List ℕ
slots_text slots = slots_line slots ++ slot_lines slots

-- what a ClearCodec decoder holds
unfoldable pub decoder_text : Rings → List GlyphSlot → List ℕ
decoder_text rings glyphs = bars_line rings ++ (shorts_line rings ++ glyphs_line glyphs)

-- the end of an audit
unfoldable pub audit_end_text : Slots → Rings → List GlyphSlot → ℕ → List ℕ
audit_end_text slots rings glyphs tiles = slots_text slots ++ (decoder_text rings glyphs ++ tiles_line tiles)
