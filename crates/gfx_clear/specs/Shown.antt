-- Which pixels the residual layer and a subcodec draw ([MS-RDPEGFX] 2.2.4.1.1.1 and 2.2.4.1.1.3), whoever wrote them.
use Rattle.std.specs.Prelude.{◌≡◌, ℕ, ◌*◌, ◌<◌, List, length, take, drop, slice_index, Ok}
use Rattle.std.specs.Int.{w16, w32}
use Rattle.gfx_base.specs.Field.{number_at}
use Rattle.gfx_base.specs.declared.pixel.Rgb.{Rgb}
use Rattle.gfx_clear_runs.specs.Reading.{covered, runs_of}
use Rattle.gfx_clear_bands.specs.Bands.{Drawing}
use Rattle.gfx_clear_bands.specs.Pixels.{Shows, row_by_row}
use Rattle.gfx_clear.specs.declared.area.TheConstants.{AREA}
use Rattle.gfx_clear.specs.Parts.{residual}
use Rattle.gfx_clear.specs.Subcodecs.{coded, subcodec}

-- the residual layer draws its pixels, row by row, over all of a picture of these sides
abbrev pub ResidualShows : Type 0
ResidualShows =
    (width height : ℕ) (old new : Drawing) (bytes : List ℕ) → length old.colours ≡ width * height → length old.drawn ≡ width * height → 0 < length bytes
    → residual (width * height) old bytes ≡ Ok new
    → (pixels : List Rgb)
    × (covered (width * height) (runs_of bytes) ≡ Ok pixels)
    × (length pixels ≡ width * height)
    × Shows width 0 0 width height (row_by_row width pixels) old new
    × (new.rings ≡ old.rings)

-- a subcodec draws its pixels, row by row, in the rectangle that its first eight bytes say: column and row of the top
-- left, then width and height
abbrev pub SubcodecShows : Type 0
SubcodecShows =
    (width height : ℕ) (old new : Drawing) (bytes rest : List ℕ) → length old.colours ≡ width * height → length old.drawn ≡ width * height
    → subcodec width height old bytes ≡ Ok (new, rest)
    → (pixels : List Rgb)
    × (coded (slice_index bytes 12) (number_at w16 bytes 4 * number_at w16 bytes 6) (take (number_at w32 bytes 8) (drop AREA bytes)) ≡ Ok pixels)
    × (length pixels ≡ number_at w16 bytes 4 * number_at w16 bytes 6)
    × Shows width (number_at w16 bytes 0) (number_at w16 bytes 2) (number_at w16 bytes 4) (number_at w16 bytes 6)
    (row_by_row (number_at w16 bytes 4) pixels) old new
    × (new.rings ≡ old.rings)
    × (rest ≡ drop (number_at w32 bytes 8) (drop AREA bytes))
