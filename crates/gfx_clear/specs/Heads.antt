-- The head of a ClearCodec stream ([MS-RDPEGFX] 2.2.4.1, CLEARCODEC_BITMAP_STREAM: flags, seqNumber and glyphIndex).
-- The order of the checks is this project's own rule.
use Rattle.std.specs.Prelude.{ℕ, ◌/◌, ◌%◌, ◌==◌, Bool, true, nat_le, nat_lt, List, length, drop, slice_index, Option, Some, None, Result, Ok, Err, if◌then◌else◌}
use Rattle.std.specs.Int.{w16}
use Rattle.gfx_base.specs.declared.refusal.Refusal.{Refusal}
use Rattle.gfx_base.specs.declared.refusal.Refusal.TheVariants.{ClearLengths, ClearFlags, ClearSequence, GlyphIndex, GlyphArea}
use Rattle.gfx_base.specs.Field.{number_at}
use Rattle.gfx_base.specs.Results.{◌>>=◌, check}
use Rattle.gfx_glyph.specs.declared.glyphs.TheConstants.{PLACES, MOST_AREA}
use Rattle.gfx_clear.specs.declared.head.Head.{Head}
use Rattle.gfx_clear.specs.declared.head.GlyphUse.{GlyphUse}
use Rattle.gfx_clear.specs.declared.head.GlyphUse.TheVariants.{Unused, Stores, Shows}
use Rattle.gfx_clear.specs.declared.head.TheConstants.{GLYPH_INDEX, GLYPH_HIT, CACHE_RESET}

-- the flag of this value is set
abbrev pub is_set : ℕ → ℕ → Bool
is_set flag flags = flags / flag % 2 == 1

-- how many bytes the head has
abbrev pub head_size : ℕ → ℕ
head_size flags = if is_set GLYPH_INDEX flags then 4 else 2

-- what the flags say of an index; a hit needs one
abbrev pub glyph_use : ℕ → ℕ → Result GlyphUse Refusal
glyph_use flags index =
    if is_set GLYPH_INDEX flags then Ok (if is_set GLYPH_HIT flags then Shows index else Stores index)
    else (if is_set GLYPH_HIT flags then Err ClearFlags else Ok Unused)

-- the number that is expected, or any where none is
abbrev pub is_due : Option ℕ → ℕ → Bool
is_due None sequence = true
is_due (Some expected) sequence = sequence == expected

-- an index is one of the glyphs'
abbrev pub has_place : GlyphUse → Bool
has_place Unused = true
has_place (Stores index) = nat_lt index PLACES
has_place (Shows index) = nat_lt index PLACES

-- what is stored or shown by an index is small
abbrev pub is_small : ℕ → GlyphUse → Bool
is_small area Unused = true
is_small area (Stores index) = nat_le area MOST_AREA
is_small area (Shows index) = nat_le area MOST_AREA

-- the head of a stream for so many pixels, and the bytes behind it
unfoldable pub head : Option ℕ → ℕ → List ℕ → Result (Head × List ℕ) Refusal
head expected area bytes = do
  whole ← check ClearLengths (nat_le (head_size (slice_index bytes 0)) (length bytes))
  glyph ← glyph_use (slice_index bytes 0) (number_at w16 bytes 2)
  due ← check ClearSequence (is_due expected (slice_index bytes 1))
  place ← check GlyphIndex (has_place glyph)
  small ← check GlyphArea (is_small area glyph)
  Ok (record { sequence = slice_index bytes 1; glyph = glyph; reset = is_set CACHE_RESET (slice_index bytes 0) }, drop (head_size (slice_index bytes 0)) bytes)
