-- What a part of runs is made of: the runs of the residual layer ([MS-RDPEGFX] 2.2.4.1.1.1.1) and the segments
-- of the RLEX subcodec ([MS-RDPEGFX] 2.2.4.1.1.3.1.2).
use Rattle.std.specs.Prelude.{ℕ, ◌+◌, ◌-◌, ◌*◌, ◌/◌, ◌%◌, ◌^◌, zero, suc, slice_index, nat_lt, nat_le, List, [], ◌∷◌, ◌++◌, length, replicate, slice_index_or, Option, Some, None, Result, Ok, Err, if◌then◌else◌}
use Rattle.std.specs.List.{slice_range}
use Rattle.gfx_base.specs.declared.pixel.Rgb.{Rgb}
use Rattle.gfx_base.specs.declared.refusal.Refusal.{Refusal}
use Rattle.gfx_base.specs.declared.refusal.Refusal.TheVariants.{ClearLengths, PaletteRange}
use Rattle.gfx_clear_runs.specs.declared.length.Length.{Length}
use Rattle.gfx_clear_runs.specs.Lengths.{length_at}

-- a colour so many times, more pixels behind it, and how many bytes they were spelled in
pub record Element : Type 0 where
  pub colour : Rgb
  pub count : ℕ
  pub more : List Rgb
  pub size : ℕ

abbrev pub element : Rgb → ℕ → List Rgb → ℕ → Element
element colour count more size = record { colour = colour; count = count; more = more; size = size }

abbrev pub pixels_in : Element → List Rgb
pixels_in part = replicate part.count part.colour ++ part.more

-- how many pixels an element has
abbrev pub area_in : Element → ℕ
area_in part = part.count + length part.more

-- a colour by its three bytes
abbrev pub rgb : ℕ → ℕ → ℕ → Rgb
rgb b g r = record { b = b; g = g; r = r }

-- black, which stands where a palette has no colour
abbrev pub black : Rgb
black = rgb 0 0 0

-- a run is a colour and its length
unfoldable pub run_with : Rgb → Option Length → Result Element Refusal
run_with colour None = Err ClearLengths
run_with colour (Some run) = Ok (element colour run.count [] (3 + run.size))

-- the run at the front of bytes
unfoldable pub run_at : List ℕ → Result Element Refusal
run_at (b ∷ g ∷ r ∷ rest) = run_with (rgb b g r) (length_at rest)
run_at _ = Err ClearLengths

-- how many bits of a segment's byte say where it stops, with a palette of so many colours: enough for its last place
unfoldable pub stop_bits : ℕ → ℕ
stop_bits colours =
    if nat_le colours 2 then 1
    else if nat_le colours 4 then 2
    else if nat_le colours 8 then 3
    else if nat_le colours 16 then 4
    else if nat_le colours 32 then 5
    else if nat_le colours 64 then 6
    else 7

-- the colours of a palette from one place to another, the first of them so many times before
unfoldable pub segment_from : List Rgb → ℕ → ℕ → Length → Result Element Refusal
segment_from palette stop depth run =
    if nat_le (length palette) stop then Err PaletteRange
    else if nat_lt stop depth then Err PaletteRange
    else Ok (element (slice_index_or palette (stop - depth) black) run.count
    (slice_range palette (stop - depth) (stop + 1)) (1 + run.size))

-- a segment is a byte and a run length
unfoldable pub segment_with : List Rgb → ℕ → Option Length → Result Element Refusal
segment_with palette byte None = Err ClearLengths
segment_with palette byte (Some run) =
    segment_from palette (byte % 2 ^ stop_bits (length palette)) (byte / 2 ^ stop_bits (length palette)) run

-- the segment at the front of bytes
unfoldable pub segment_at : List Rgb → List ℕ → Result Element Refusal
segment_at palette [] = Err ClearLengths
segment_at palette (byte ∷ rest) = segment_with palette byte (length_at rest)

-- the entry of a palette at a place
abbrev pub entry : List ℕ → ℕ → Rgb
entry bytes place =
    rgb (slice_index bytes (3 * place)) (slice_index bytes (3 * place + 1)) (slice_index bytes (3 * place + 2))

-- the first entries of a palette
unfoldable pub entries : ℕ → List ℕ → List Rgb
entries zero bytes = []
entries (suc n) bytes = entries n bytes ++ entry bytes n ∷ []
