-- The bytes of a state, and its digest: its surfaces, its filled slots, and what its ClearCodec decoder holds.
-- They are this project's own rule.
use Rattle.std.specs.Prelude.{◌≡◌, ℕ, ◌+◌, List, [], ◌∷◌, ◌++◌, length, Some, None}
use Rattle.std.specs.Int.{w8, w16, w64, to_le_bytes}
use Rattle.std.specs.List.{flat_map, range_with_len}
use Rattle.std.specs.Ordering.{nat_cmp}
use Rattle.std.specs.FinMap as finmap
use Rattle.std.specs.FinMap.{FinMap}
use Rattle.gfx_base.specs.Format.{byte_of}
use Rattle.gfx_base.specs.declared.pixel.Pixel.{Pixel}
use Rattle.gfx_base.specs.declared.pixel.Rgb.{Rgb}
use Rattle.gfx_surface.specs.Picture.{Picture}
use Rattle.gfx_surface_map.specs.Surfaces.{Surfaces}
use Rattle.gfx_bitmap_cache.specs.Slots.{Entry}
use Rattle.gfx_clear_store.specs.Rings.{Slot, Rings}
use Rattle.gfx_clear_bands.specs.Writing.{colour_bytes}
use Rattle.gfx_glyph.specs.Glyphs.{Slot as GlyphSlot, slot_at}
use Rattle.gfx_glyph.specs.declared.glyphs.TheConstants.{PLACES}
use Rattle.sha2.specs.Sha256.{sha256}

-- the filled slots of a cache
abbrev pub Slots : Type 0
Slots = FinMap nat_cmp Entry

-- the bytes of a number of 16 bits, the lowest first
abbrev pub two_bytes : ℕ → List ℕ
two_bytes number = to_le_bytes w16 number

-- the bytes of a number of 64 bits, the lowest first
abbrev pub eight_bytes : ℕ → List ℕ
eight_bytes number = to_le_bytes w64 number

-- two sides
abbrev pub sides_bytes : ℕ → ℕ → List ℕ
sides_bytes width height = two_bytes width ++ two_bytes height

-- the bytes of a pixel: blue, green, red, alpha
abbrev pub pixel_bytes : Pixel → List ℕ
pixel_bytes pixel = pixel.b ∷ pixel.g ∷ pixel.r ∷ pixel.a ∷ []

-- pixels, one after another
abbrev pub pixels_bytes : List Pixel → List ℕ
pixels_bytes pixels = flat_map pixel_bytes pixels

-- a surface: its id, its sides, its format and its pixels, row by row from the top
unfoldable pub surface_bytes : ℕ → Picture → List ℕ
surface_bytes id picture =
    two_bytes id ++ (sides_bytes picture.width picture.height ++ (byte_of picture.format ∷ pixels_bytes picture.pixels))

-- a filled slot: its number, its key, and the sides and the pixels of its bitmap, row by row from the top
unfoldable pub slot_bytes : ℕ → Entry → List ℕ
slot_bytes slot held =
    two_bytes slot ++ (eight_bytes held.key ++ (sides_bytes held.image.width held.image.height ++ pixels_bytes held.image.pixels))

-- all surfaces, by ascending id
unfoldable pub surfaces_bytes : Surfaces → List ℕ
surfaces_bytes surfaces = flat_map (λ entry. surface_bytes entry.0 entry.1) (finmap.entries surfaces)

-- all filled slots, ascending
unfoldable pub slots_bytes : Slots → List ℕ
slots_bytes slots = flat_map (λ held. slot_bytes held.0 held.1) (finmap.entries slots)

-- colours, one after another: blue, green, red
abbrev pub colours_bytes : List Rgb → List ℕ
colours_bytes pixels = flat_map colour_bytes pixels

-- a place of a ring, if it was ever written: its number, how many pixels stand there, and these from the top
abbrev pub place_bytes : ℕ → Slot → List ℕ
place_bytes place None = []
place_bytes place (Some pixels) = two_bytes place ++ (to_le_bytes w8 (length pixels) ++ colours_bytes pixels)

-- the places of a ring from one on, ascending
unfoldable pub ring_bytes : ℕ → List Slot → List ℕ
ring_bytes place [] = []
ring_bytes place (slot ∷ slots) = place_bytes place slot ++ ring_bytes (place + 1) slots

-- an index, if a glyph is held there: the index, and the glyph's sides and pixels, row by row from the top
abbrev pub glyph_bytes : ℕ → GlyphSlot → List ℕ
glyph_bytes index None = []
glyph_bytes index (Some held) = two_bytes index ++ (sides_bytes held.width held.height ++ colours_bytes held.pixels)

-- the glyphs of so many indices, ascending
unfoldable pub glyphs_bytes : ℕ → List GlyphSlot → List ℕ
glyphs_bytes count glyphs = flat_map (λ index. glyph_bytes index (slot_at glyphs index)) (range_with_len 0 count)

-- the two cursors, that of the bars first
abbrev pub cursors_bytes : Rings → List ℕ
cursors_bytes rings = two_bytes rings.bars.cursor ++ two_bytes rings.shorts.cursor

-- what a ClearCodec decoder holds: the bars, the shorts, the glyphs and the cursors
unfoldable pub clear_bytes : Rings → List GlyphSlot → List ℕ
clear_bytes rings glyphs =
    ring_bytes 0 rings.bars.slots ++ (ring_bytes 0 rings.shorts.slots ++ (glyphs_bytes PLACES glyphs ++ cursors_bytes rings))

-- the bytes of a state
unfoldable pub state_bytes : Surfaces → Slots → Rings → List GlyphSlot → List ℕ
state_bytes surfaces slots rings glyphs = surfaces_bytes surfaces ++ (slots_bytes slots ++ clear_bytes rings glyphs)

-- the digest of a state
unfoldable pub digest_of : Surfaces → Slots → Rings → List GlyphSlot → List ℕ
digest_of surfaces slots rings glyphs = sha256 (state_bytes surfaces slots rings glyphs)

-- states that hold the same have the same digest
abbrev pub DigestsFollowStates : Type 0
DigestsFollowStates =
    (surfaces others : Surfaces) (slots more : Slots) (rings turned : Rings) (glyphs shapes : List GlyphSlot)
    → surfaces ≡ others → slots ≡ more → rings ≡ turned → glyphs ≡ shapes
    → digest_of surfaces slots rings glyphs ≡ digest_of others more turned shapes
