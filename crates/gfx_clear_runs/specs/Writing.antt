-- The server's writer: this project's own rule, over the layout of [MS-RDPEGFX] 2.2.4.1.1.1 and 2.2.4.1.1.3.1.2.
use Rattle.std.specs.Prelude.{◌≡◌, ℕ, ◌+◌, ◌-◌, Bool, true, false, ◌&&◌, nat_le, nat_lt, List, [], ◌∷◌, ◌++◌, length, Option, Some, None, Result, Ok, Err, if◌then◌else◌}
use Rattle.std.specs.List.{flat_map, position_or_len}
use Rattle.gfx_base.specs.Colour.{same_colour, colours_of}
use Rattle.gfx_base.specs.declared.pixel.Rgb.{Rgb}
use Rattle.gfx_base.specs.declared.answer.NoMemory.{NoMemory}
use Rattle.gfx_clear_runs.specs.Lengths.{length_spelled}
use Rattle.gfx_clear_runs.specs.declared.palette.TheConstants.{PALETTE_MOST}

-- a colour, so many times
pub record Run : Type 0 where
  pub colour : Rgb
  pub count : ℕ

abbrev pub run : Rgb → ℕ → Run
run colour count = record { colour = colour; count = count }

-- one more pixel before runs
unfoldable pub joined : Rgb → List Run → List Run
joined colour [] = run colour 1 ∷ []
joined colour (next ∷ runs) =
    if same_colour colour next.colour then run colour (next.count + 1) ∷ runs
    else run colour 1 ∷ (next ∷ runs)

-- the longest runs of pixels
unfoldable pub longest_runs : List Rgb → List Run
longest_runs [] = []
longest_runs (pixel ∷ pixels) = joined pixel (longest_runs pixels)

abbrev pub run_spelled : Run → List ℕ
run_spelled part = part.colour.b ∷ (part.colour.g ∷ (part.colour.r ∷ length_spelled part.count))

-- a residual layer
abbrev pub runs_written : List Rgb → List ℕ
runs_written pixels = flat_map run_spelled (longest_runs pixels)

abbrev pub place_of : List Rgb → Rgb → ℕ
place_of palette colour = position_or_len (same_colour colour) palette

-- a run as a segment that stops where it starts
abbrev pub segment_spelled : List Rgb → Run → List ℕ
segment_spelled palette part = place_of palette part.colour ∷ length_spelled (part.count - 1)

abbrev pub entry_spelled : Rgb → List ℕ
entry_spelled colour = colour.b ∷ (colour.g ∷ (colour.r ∷ []))

-- the RLEX subcodec with a palette
abbrev pub segments_written : List Rgb → List Rgb → List ℕ
segments_written palette pixels =
    length palette ∷ (flat_map entry_spelled palette ++ flat_map (segment_spelled palette) (longest_runs pixels))

-- the RLEX subcodec, where there are colours, and no more than a palette may have
unfoldable pub rlex_by : List Rgb → List Rgb → Option (List ℕ)
rlex_by palette pixels =
    if nat_lt 0 (length palette) && nat_le (length palette) PALETTE_MOST then Some (segments_written palette pixels) else None

abbrev pub rlex_written : List Rgb → Option (List ℕ)
rlex_written pixels = rlex_by (colours_of pixels) pixels

-- what the writer of the RLEX subcodec did
abbrev pub Writes : Result Bool NoMemory → Option (List ℕ) → List ℕ → List ℕ → Type 0
Writes (Ok true) due old new = (bytes : List ℕ) × (due ≡ Some bytes) × (new ≡ old ++ bytes)
Writes (Ok false) due old new = (due ≡ None) × (new ≡ old)
Writes (Err e) due old new = new ≡ old
