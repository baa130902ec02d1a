-- Inner: a part that draws the whole rectangle and stands alone, as the code's own functions hand it on. No clause
-- of a public call cites it.
use Rattle.std.specs.Prelude.{◌≡◌, ℕ, ◌+◌, ◌*◌, List, length, map, Result, Ok, Err}
use Rattle.gfx_base.specs.declared.pixel.Pixel.{Pixel}
use Rattle.gfx_base.specs.declared.pixel.Rgb.{Rgb}
use Rattle.gfx_base.specs.declared.refusal.Refusal.{Refusal}
use Rattle.gfx_base.specs.Results.{and_then}
use Rattle.gfx_clear_runs.specs.Reading.{covered, runs_of, rlex_of}
use Rattle.gfx_clear_bands.specs.Bands.{Drawing}
use Rattle.gfx_clear.specs.declared.area.Area.{Area}
use Rattle.gfx_clear.specs.declared.area.TheConstants.{AREA}
use Rattle.gfx_clear.specs.declared.whole.Whole.{Whole}
use Rattle.gfx_clear.specs.declared.whole.Whole.TheVariants.{Runs, Raw, Palette}
use Rattle.gfx_clear.specs.Parts.{covered_by}
use Rattle.gfx_clear.specs.Subcodecs.{raw_colours}
use Rattle.gfx_base.specs.Colour.{opaque}

-- its pixels, for so many places
abbrev pub whole_pixels : Whole → ℕ → Result (List Rgb) Refusal
whole_pixels (Runs bytes) area = covered area (runs_of bytes.now)
whole_pixels (Raw bytes) area = raw_colours area bytes.now
whole_pixels (Palette bytes) area = covered area (rlex_of bytes.now)

-- all of a picture is drawn, or these pixels are refused
abbrev pub covers : Result (List Rgb) Refusal → Drawing → Result Drawing Refusal
covers pixels old = and_then pixels (λ drawn. Ok (covered_by drawn old))

-- so is what layers, or a layer, draw over any picture of these sides
abbrev pub IsWhole : ℕ → ℕ → Whole → (Drawing → Result Drawing Refusal) → Type 0
IsWhole width height whole draws =
    (old : Drawing) → length old.colours ≡ width * height → length old.drawn ≡ width * height → draws old ≡ covers (whole_pixels whole (width * height)) old

-- a subcodec of so many bytes has this rectangle, and no other stands behind it
pub record CoversAll (area : Area) (width height size : ℕ) : Type 0 where
  pub left : area.x ≡ 0
  pub top : area.y ≡ 0
  pub across : area.width ≡ width
  pub down : area.height ≡ height
  pub alone : size ≡ AREA + area.size

-- what painting did to all pixels, against what is due
abbrev pub PaintsAs : Result (Unit {0}) Refusal → List Pixel → Result (List Rgb) Refusal → Type 0
PaintsAs (Ok x) new due = (pixels : List Rgb) × (due ≡ Ok pixels) × (new ≡ map opaque pixels)
PaintsAs (Err refusal) new due = due ≡ Err refusal
