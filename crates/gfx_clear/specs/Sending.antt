-- What a server sends for a picture: this project's own choice among the streams that [MS-RDPEGFX] 2.2.4.1 allows.
-- It is a function of the state and the picture, so that no other bytes are sent.
use Rattle.std.specs.Prelude.{ℕ, ◌+◌, ◌*◌, ◌<◌, ◌≤◌, ◌≡◌, List, [], ◌∷◌, ◌++◌, length, slice_set, Option, Some, None, unwrap_or, if◌then◌else◌}
use Rattle.std.specs.List.{flat_map}
use Rattle.std.specs.Int.{w16, w32, to_le_bytes}
use Rattle.gfx_base.specs.declared.pixel.Rgb.{Rgb}
use Rattle.gfx_clear_store.specs.Rings.{Rings}
use Rattle.gfx_clear_runs.specs.Writing.{runs_written, rlex_written}
use Rattle.gfx_clear_bands.specs.Writing.{colour_bytes, elements, written, after}
use Rattle.gfx_glyph.specs.Glyphs.{Slot, glyph, slot_at, stands}
use Rattle.gfx_glyph.specs.declared.glyphs.TheConstants.{PLACES, MOST_AREA}
use Rattle.gfx_clear.specs.declared.area.TheConstants.{AREA, RAW, RLEX}
use Rattle.gfx_clear.specs.declared.head.GlyphUse.{GlyphUse}
use Rattle.gfx_clear.specs.declared.head.GlyphUse.TheVariants.{Unused, Stores, Shows}
use Rattle.gfx_clear.specs.declared.head.TheConstants.{GLYPH_INDEX, GLYPH_HIT}
use Rattle.gfx_clear.specs.declared.layer.Layer.{Layer}
use Rattle.gfx_clear.specs.declared.layer.Layer.TheVariants.{Residual, Bands, Palette, Plain}
use Rattle.gfx_clear.specs.declared.encoding.TheConstants.{MOST_PIXELS}
use Rattle.gfx_clear.specs.declared.part.Part.{Part}
use Rattle.gfx_clear.specs.declared.part.Place.{Place}
use Rattle.gfx_clear.specs.declared.part.Place.TheVariants.{ByRuns, ByBands, Subcodec}
use Rattle.gfx_clear.specs.State.{ClearState, state, next_sequence}

abbrev pub part : Place → List ℕ → Part
part place bytes = record { place = place; bytes = bytes }

abbrev pub raw_part : List Rgb → Part
raw_part pixels = part (Subcodec RAW) (flat_map colour_bytes pixels)

-- by a palette, where there is such a form
abbrev pub palette_part : List Rgb → Option (List ℕ) → Part
palette_part pixels (Some bytes) = part (Subcodec RLEX) bytes
palette_part pixels None = raw_part pixels

-- a picture by a layer
abbrev pub part_as : Layer → Rings → ℕ → ℕ → List Rgb → Part
part_as Residual old width height pixels = part ByRuns (runs_written pixels)
part_as Bands old width height pixels = part ByBands (written old (elements width height pixels))
part_as Palette old width height pixels = palette_part pixels (rlex_written pixels)
part_as Plain old width height pixels = raw_part pixels

-- the rings after it
abbrev pub rings_after : Layer → Rings → ℕ → ℕ → List Rgb → Rings
rings_after Bands old width height pixels = after old (elements width height pixels)
rings_after layer old width height pixels = old

-- the head of a subcodec over the whole rectangle
unfoldable pub area_bytes : ℕ → ℕ → ℕ → ℕ → List ℕ
area_bytes width height size codec =
    to_le_bytes w16 0 ++ (to_le_bytes w16 0 ++ (to_le_bytes w16 width ++ (to_le_bytes w16 height ++ (to_le_bytes w32 size ++ codec ∷ []))))

-- the sizes of the three parts
unfoldable pub size_bytes : ℕ → ℕ → ℕ → List ℕ
size_bytes residual bands subcodecs = to_le_bytes w32 residual ++ (to_le_bytes w32 bands ++ to_le_bytes w32 subcodecs)

-- the three parts, of which two are empty
abbrev pub placed : Place → ℕ → ℕ → List ℕ → List ℕ
placed ByRuns width height bytes = size_bytes (length bytes) 0 0 ++ bytes
placed ByBands width height bytes = size_bytes 0 (length bytes) 0 ++ bytes
placed (Subcodec codec) width height bytes = size_bytes 0 0 (AREA + length bytes) ++ (area_bytes width height (length bytes) codec ++ bytes)

abbrev pub part_bytes : ℕ → ℕ → Part → List ℕ
part_bytes width height p = placed p.place width height p.bytes

-- an index that holds the picture shows it, and another stores it
abbrev pub use_of : Option ℕ → ℕ → ℕ → List Rgb → List Slot → GlyphUse
use_of None width height pixels glyphs = Unused
use_of (Some index) width height pixels glyphs = if stands width height pixels (slot_at glyphs index) then Shows index else Stores index

-- the head of a stream
abbrev pub head_bytes : GlyphUse → ℕ → List ℕ
head_bytes Unused sequence = 0 ∷ (sequence ∷ [])
head_bytes (Stores index) sequence = GLYPH_INDEX ∷ (sequence ∷ to_le_bytes w16 index)
head_bytes (Shows index) sequence = (GLYPH_INDEX + GLYPH_HIT) ∷ (sequence ∷ to_le_bytes w16 index)

-- the sequence number of the next stream
abbrev pub sequence_of : ClearState → ℕ
sequence_of old = unwrap_or old.expected 0

-- what is sent, and the state after it
pub record Message : Type 0 where
  pub bytes : List ℕ
  pub state : ClearState

-- bytes that were written, and the state after them
abbrev pub sends : List ℕ → ClearState → Message
sends bytes new = record { bytes = bytes; state = new }

abbrev pub message : List ℕ → Rings → List Slot → ℕ → Message
message bytes rings glyphs sequence = record { bytes = bytes; state = state rings glyphs (Some (next_sequence sequence)) }

-- a picture, once it is known what is done with an index
abbrev pub sent_as : GlyphUse → Layer → Rings → List Slot → ℕ → ℕ → ℕ → List Rgb → Message
sent_as (Shows index) layer rings glyphs sequence width height pixels = message (head_bytes (Shows index) sequence) rings glyphs sequence
sent_as (Stores index) layer rings glyphs sequence width height pixels =
    message (head_bytes (Stores index) sequence ++ part_bytes width height (part_as layer rings width height pixels))
    (rings_after layer rings width height pixels) (slice_set glyphs index (Some (glyph width height pixels))) sequence
sent_as Unused layer rings glyphs sequence width height pixels =
    message (head_bytes Unused sequence ++ part_bytes width height (part_as layer rings width height pixels)) (rings_after layer rings width height pixels) glyphs sequence

-- a picture by a layer, and by an index if there is one
unfoldable pub sent : ClearState → Layer → Option ℕ → ℕ → ℕ → List Rgb → Message
sent old layer index width height pixels =
    sent_as (use_of index width height pixels old.glyphs) layer old.rings old.glyphs (sequence_of old) width height pixels

-- an index for a picture of so many pixels, or none
abbrev pub MayStore : ℕ → Option ℕ → Type 0
MayStore area None = Unit {0}
MayStore area (Some index) = (index < PLACES) × (area ≤ MOST_AREA)

-- a picture that can be sent
pub record MaySend (width height : ℕ) (pixels : List Rgb) (index : Option ℕ) : Type 0 where
  pub across : 1 ≤ width
  pub down : 1 ≤ height
  pub few : width * height ≤ MOST_PIXELS
  pub whole : length pixels ≡ width * height
  pub place : MayStore (width * height) index
