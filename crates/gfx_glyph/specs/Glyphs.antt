-- Glyphs by their index ([MS-RDPEGFX] 2.2.4.1, glyphIndex): areas that are kept as they were drawn. The order of
-- the checks is this project's own rule.
use Rattle.std.specs.Prelude.{ℕ, ◌*◌, Bool, false, ◌&&◌, nat_eq, nat_lt, List, replicate, slice_set, slice_index_or, position, Option, Some, None, Result, Ok, Err, if◌then◌else◌}
use Rattle.gfx_base.specs.Colour.{same_pixels}
use Rattle.gfx_base.specs.declared.pixel.Rgb.{Rgb}
use Rattle.gfx_base.specs.declared.refusal.Refusal.{Refusal}
use Rattle.gfx_base.specs.declared.refusal.Refusal.TheVariants.{GlyphIndex, GlyphArea, GlyphEmpty, GlyphSize}
use Rattle.gfx_glyph.specs.declared.glyph.Glyph.{Glyph}
use Rattle.gfx_glyph.specs.declared.glyphs.TheConstants.{PLACES, MOST_AREA}

abbrev pub glyph : ℕ → ℕ → List Rgb → Glyph
glyph width height pixels = record { width = width; height = height; pixels = pixels }

-- what stands at an index: a glyph, or nothing where none was ever stored
abbrev pub Slot : Type 0
Slot = Option Glyph

-- no glyphs in so many places
unfoldable pub no_glyphs : ℕ → List Slot
no_glyphs places = replicate places None

abbrev pub slot_at : List Slot → ℕ → Slot
slot_at slots index = slice_index_or slots index None

-- these pixels stand there, at this size
abbrev pub stands : ℕ → ℕ → List Rgb → Slot → Bool
stands width height pixels None = false
stands width height pixels (Some held) = nat_eq held.width width && (nat_eq held.height height && same_pixels held.pixels pixels)

-- the least index of these pixels at this size
abbrev pub least_index : ℕ → ℕ → List Rgb → List Slot → Option ℕ
least_index width height pixels slots = position (stands width height pixels) slots

-- glyphs once these pixels are stored
unfoldable pub stored : ℕ → ℕ → ℕ → List Rgb → List Slot → Result (List Slot) Refusal
stored index width height pixels slots =
    if nat_lt index PLACES then
    (if nat_lt MOST_AREA (width * height) then Err GlyphArea else Ok (slice_set slots index (Some (glyph width height pixels))))
    else Err GlyphIndex

-- what a slot shows at a size
unfoldable pub drawn : ℕ → ℕ → Slot → Result (List Rgb) Refusal
drawn width height None = Err GlyphEmpty
drawn width height (Some held) = if nat_eq held.width width && nat_eq held.height height then Ok held.pixels else Err GlyphSize

-- what an index shows at a size
unfoldable pub shown : ℕ → ℕ → ℕ → List Slot → Result (List Rgb) Refusal
shown index width height slots =
    if nat_lt index PLACES then
    (if nat_lt MOST_AREA (width * height) then Err GlyphArea else drawn width height (slot_at slots index))
    else Err GlyphIndex
