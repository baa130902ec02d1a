-- Which bytes spell runs: the residual layer ([MS-RDPEGFX] 2.2.4.1.1.1), and the RLEX subcodec's palette and segments
-- (2.2.4.1.1.3.1.2). A run length may be spelled in any of its forms that holds it.
use Rattle.std.specs.Prelude.{◌≡◌, ◌⊎◌, ℕ, ◌+◌, ◌-◌, ◌*◌, ◌^◌, ◌<◌, ◌≤◌, List, [], ◌∷◌, ◌++◌, length, replicate, slice_index_or, None}
use Rattle.std.specs.Int.{w16, w32, to_le_bytes}
use Rattle.std.specs.List.{flat_map, slice_range}
use Rattle.gfx_base.specs.Field.{IsBytes}
use Rattle.gfx_base.specs.declared.pixel.Rgb.{Rgb}
use Rattle.gfx_clear_runs.specs.declared.palette.TheConstants.{PALETTE_MOST}
use Rattle.gfx_clear_runs.specs.Elements.{Element, element, black}
use Rattle.gfx_clear_runs.specs.Reading.{Part, runs_of, rlex_of, pixels_of}
use Rattle.gfx_clear_runs.specs.Writing.{Run, entry_spelled}
use Rattle.gfx_clear_runs.specs.Forms.{pixels_in_run}

-- a run length in one byte
abbrev pub IsShort : List ℕ → ℕ → Type 0
IsShort bytes count = (count < 255) × (bytes ≡ count ∷ [])

-- in two bytes, behind their mark
abbrev pub IsMiddle : List ℕ → ℕ → Type 0
IsMiddle bytes count = (count < 65535) × (bytes ≡ 255 ∷ to_le_bytes w16 count)

-- in four bytes, behind both marks
abbrev pub IsLong : List ℕ → ℕ → Type 0
IsLong bytes count = (count < 2 ^ 32) × (bytes ≡ 255 ∷ (255 ∷ (255 ∷ to_le_bytes w32 count)))

-- in any of these, longer ones than it needs too
abbrev pub SpellsLength : List ℕ → ℕ → Type 0
SpellsLength bytes count = IsShort bytes count ⊎ (IsMiddle bytes count ⊎ IsLong bytes count)

-- items one after another, each by bytes of its own
abbrev pub SpellsAll : {Item : Type 0} → (List ℕ → Item → Type 0) → List ℕ → List Item → Type 0
SpellsAll SpellsOne bytes [] = bytes ≡ []
SpellsAll SpellsOne bytes (item ∷ items) =
    (own : List ℕ) × (rest : List ℕ) × (bytes ≡ own ++ rest) × SpellsOne own item × SpellsAll SpellsOne rest items

-- a run of the residual layer: its colour, then its length
abbrev pub SpellsRun : List ℕ → Run → Type 0
SpellsRun bytes part = (behind : List ℕ) × (bytes ≡ part.colour.b ∷ (part.colour.g ∷ (part.colour.r ∷ behind))) × SpellsLength behind part.count

-- a residual layer
abbrev pub Spells : List ℕ → List Run → Type 0
Spells = SpellsAll SpellsRun

-- a segment: where in the palette it stops, by how many places before that it starts, and how often its first colour comes before
pub record Segment : Type 0 where
  pub stop : ℕ
  pub depth : ℕ
  pub count : ℕ

-- the colour where it starts
abbrev pub start_of : List Rgb → Segment → Rgb
start_of palette segment = slice_index_or palette (segment.stop - segment.depth) black

-- the colours from where it starts to where it stops
abbrev pub suite_of : List Rgb → Segment → List Rgb
suite_of palette segment = slice_range palette (segment.stop - segment.depth) (segment.stop + 1)

abbrev pub pixels_in_segment : List Rgb → Segment → List Rgb
pixels_in_segment palette segment = replicate segment.count (start_of palette segment) ++ suite_of palette segment

-- the least number of bits, one at least, that tell so many places apart
pub record AreBits (bits places : ℕ) : Type 0 where
  pub some : 1 ≤ bits
  pub enough : places ≤ 2 ^ bits
  pub least : (fewer : ℕ) → 1 ≤ fewer → fewer < bits → 2 ^ fewer < places

-- a segment: a byte whose low bits say where it stops, then its length
pub record SpellsSegment (palette : List Rgb) (bytes : List ℕ) (segment : Segment) : Type 0 where
  pub bits : ℕ
  pub low : AreBits bits (length palette)
  pub stops : segment.stop < length palette
  pub starts : segment.depth ≤ segment.stop
  pub behind : List ℕ
  pub spelled : bytes ≡ (segment.depth * 2 ^ bits + segment.stop) ∷ behind
  pub run : SpellsLength behind segment.count

-- the RLEX subcodec: the number of colours, these, and segments
pub record SpellsRlex (bytes : List ℕ) (palette : List Rgb) (segments : List Segment) : Type 0 where
  pub some : 1 ≤ length palette
  pub few : length palette ≤ PALETTE_MOST
  pub behind : List ℕ
  pub spelled : bytes ≡ length palette ∷ (flat_map entry_spelled palette ++ behind)
  pub all : SpellsAll (SpellsSegment palette) behind segments

-- a run, and a segment, as the reader finds it in so many bytes
abbrev pub of_run : Run → ℕ → Element
of_run part size = element part.colour part.count [] size

abbrev pub of_segment : List Rgb → Segment → ℕ → Element
of_segment palette segment size = element (start_of palette segment) segment.count (suite_of palette segment) size

-- the reader's elements are these items, whatever the numbers of their bytes
abbrev pub AreFound : {Item : Type 0} → (Item → ℕ → Element) → List Element → List Item → Type 0
AreFound shown [] [] = Unit {0}
AreFound shown [] (item ∷ items) = ⊥
AreFound shown (found ∷ elements) [] = ⊥
AreFound shown (found ∷ elements) (item ∷ items) = (found ≡ shown item found.size) × AreFound shown elements items

-- the reader refuses nothing, and finds these items and their pixels
pub record IsReadAs {Item : Type 0} (shown : Item → ℕ → Element) (gives : Item → List Rgb) (part : Part) (items : List Item) : Type 0 where
  pub whole : part.refusal ≡ None
  pub found : AreFound shown part.elements items
  pub pixels : pixels_of part.elements ≡ flat_map gives items

abbrev pub AreRuns : List ℕ → List Run → Type 0
AreRuns bytes runs = IsReadAs of_run pixels_in_run (runs_of bytes) runs

abbrev pub AreSegments : List ℕ → List Rgb → List Segment → Type 0
AreSegments bytes palette segments = IsReadAs (of_segment palette) (pixels_in_segment palette) (rlex_of bytes) segments

-- the laws: what is read whole is spelled so, and what is spelled so is read
abbrev pub ReadRunsAreSpelled : Type 0
ReadRunsAreSpelled =
    (bytes : List ℕ) → IsBytes bytes → (runs_of bytes).refusal ≡ None → (runs : List Run) × Spells bytes runs × AreRuns bytes runs

abbrev pub SpelledRunsAreRead : Type 0
SpelledRunsAreRead = (bytes : List ℕ) (runs : List Run) → Spells bytes runs → AreRuns bytes runs

abbrev pub ReadSegmentsAreSpelled : Type 0
ReadSegmentsAreSpelled =
    (bytes : List ℕ) → IsBytes bytes → (rlex_of bytes).refusal ≡ None
    → (palette : List Rgb) × (segments : List Segment) × SpellsRlex bytes palette segments × AreSegments bytes palette segments

abbrev pub SpelledSegmentsAreRead : Type 0
SpelledSegmentsAreRead =
    (bytes : List ℕ) (palette : List Rgb) (segments : List Segment) → SpellsRlex bytes palette segments → AreSegments bytes palette segments
