-- The three parts of a ClearCodec stream ([MS-RDPEGFX] 2.2.4.1.1, CLEARCODEC_COMPOSITE_PAYLOAD), and the first of them.
-- That the sum of their sizes is no number of 32 bits is this project's own rule.
use Rattle.std.specs.Prelude.{ℕ, ◌+◌, ◌-◌, ◌==◌, true, nat_le, List, [], ◌∷◌, length, take, drop, replicate, Result, Ok, Err}
use Rattle.std.specs.Int.{w32}
use Rattle.gfx_base.specs.declared.pixel.Rgb.{Rgb}
use Rattle.gfx_base.specs.declared.refusal.Refusal.{Refusal}
use Rattle.gfx_base.specs.declared.refusal.Refusal.TheVariants.{ClearLengths}
use Rattle.gfx_base.specs.Field.{number_at}
use Rattle.gfx_base.specs.Results.{◌>>=◌, check}
use Rattle.gfx_clear_runs.specs.Reading.{covered, runs_of}
use Rattle.gfx_clear_bands.specs.Bands.{Drawing, drawing, Stop}
use Rattle.gfx_clear.specs.declared.parts.TheConstants.{COUNTS}

pub record Parts : Type 0 where
  pub residual : List ℕ
  pub bands : List ℕ
  pub subcodecs : List ℕ

-- behind their sizes, so many bytes each
abbrev pub cut : ℕ → ℕ → List ℕ → Parts
cut first second bytes = record { residual = take first bytes; bands = take second (drop first bytes); subcodecs = drop second (drop first bytes) }

unfoldable pub parts : List ℕ → Result Parts Refusal
parts bytes = do
  counted ← check ClearLengths (nat_le COUNTS (length bytes))
  exact ← check ClearLengths (number_at w32 bytes 0 + number_at w32 bytes 4 + number_at w32 bytes 8 == length bytes - COUNTS)
  Ok (cut (number_at w32 bytes 0) (number_at w32 bytes 4) (drop COUNTS bytes))

-- a picture that is these pixels, all drawn
abbrev pub covered_by : List Rgb → Drawing → Drawing
covered_by pixels old = drawing pixels (replicate (length pixels) true) old.rings

-- the residual layer covers all; where it has no bytes it draws nothing
unfoldable pub residual : ℕ → Drawing → List ℕ → Result Drawing Refusal
residual area old [] = Ok old
residual area old (byte ∷ bytes) = do
  pixels ← covered area (runs_of (byte ∷ bytes))
  Ok (covered_by pixels old)

-- what bands draw, or why they are refused
abbrev pub banded : Result Drawing Stop → Result Drawing Refusal
banded (Ok new) = Ok new
banded (Err stop) = Err stop.refusal
