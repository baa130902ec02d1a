-- One column of a band ([MS-RDPEGFX] 2.2.4.1.1.2.1, CLEARCODEC_VBAR). The order of the checks is this
-- project's own rule.
use Rattle.std.specs.Prelude.{ℕ, zero, suc, ◌+◌, ◌-◌, ◌*◌, ◌/◌, ◌%◌, ◌==◌, nat_le, List, [], ◌∷◌, ◌++◌, length, take, drop, replicate, slice_index, Result, Ok, if◌then◌else◌}
use Rattle.std.specs.Int.{w16}
use Rattle.std.specs.Option.{ok_or}
use Rattle.gfx_base.specs.declared.pixel.Rgb.{Rgb}
use Rattle.gfx_base.specs.declared.refusal.Refusal.{Refusal}
use Rattle.gfx_base.specs.declared.refusal.Refusal.TheVariants.{ClearLengths, BarOrder, BarEmpty, BarHeight}
use Rattle.gfx_base.specs.Field.{number_at}
use Rattle.gfx_base.specs.Results.{◌>>=◌, check}
use Rattle.gfx_clear_store.specs.Rings.{Rings, slot_at, with_bar, with_short}
use Rattle.gfx_clear_bands.specs.declared.word.Word.{Word}
use Rattle.gfx_clear_bands.specs.declared.word.Word.TheVariants.{Hit, ShortHit, Miss}
use Rattle.gfx_clear_bands.specs.declared.word.TheConstants.{HIT, SHORT_HIT, OFF}

-- what a column's word says
abbrev pub word_of : ℕ → Word
word_of number =
    if nat_le HIT number then Hit (number - HIT)
    else (if nat_le SHORT_HIT number then ShortHit (number - SHORT_HIT) else Miss (number % OFF) (number / OFF))

-- the colour of three bytes
abbrev pub colour_at : List ℕ → ℕ → Rgb
colour_at bytes at = record { b = slice_index bytes at; g = slice_index bytes (at + 1); r = slice_index bytes (at + 2) }

-- so many colours, one after another
unfoldable pub colours : ℕ → List ℕ → List Rgb
colours zero bytes = []
colours (suc n) bytes = colour_at bytes 0 ∷ colours n (drop 3 bytes)

-- the short from its row on, background above and below it
unfoldable pub made_bar : ℕ → Rgb → ℕ → List Rgb → List Rgb
made_bar height background on short = take height (replicate on background ++ (short ++ replicate height background))

-- a column that was read: its pixels from the top, the rings after it, and the bytes behind it
pub record Bar : Type 0 where
  pub pixels : List Rgb
  pub rings : Rings
  pub rest : List ℕ

-- a bar that is made is kept
abbrev pub kept_bar : Rings → List Rgb → List ℕ → Bar
kept_bar old pixels rest = record { pixels = pixels; rings = with_bar pixels old; rest = rest }

-- a bar that is held
unfoldable pub hit_bar : Rings → ℕ → ℕ → List ℕ → Result Bar Refusal
hit_bar old height place rest = do
  pixels ← ok_or (slot_at old.bars place) BarEmpty
  whole ← check BarHeight (length pixels == height)
  Ok (record { pixels = pixels; rings = old; rest = rest })

-- a short that is held, and the row where it begins
unfoldable pub short_bar : Rings → ℕ → Rgb → ℕ → List ℕ → Result Bar Refusal
short_bar old height background place rest = do
  enough ← check ClearLengths (nat_le 1 (length rest))
  short ← ok_or (slot_at old.shorts place) BarEmpty
  Ok (kept_bar old (made_bar height background (slice_index rest 0) short) (drop 1 rest))

-- a short that is sent with the column, from one row up to another
unfoldable pub missed_bar : Rings → ℕ → Rgb → ℕ → ℕ → List ℕ → Result Bar Refusal
missed_bar old height background on off rest = do
  ordered ← check BarOrder (nat_le on off)
  enough ← check ClearLengths (nat_le (3 * (off - on)) (length rest))
  Ok (kept_bar (with_short (colours (off - on) rest) old) (made_bar height background on (colours (off - on) rest)) (drop (3 * (off - on)) rest))

abbrev pub worded_bar : Rings → ℕ → Rgb → Word → List ℕ → Result Bar Refusal
worded_bar old height background (Hit place) rest = hit_bar old height place rest
worded_bar old height background (ShortHit place) rest = short_bar old height background place rest
worded_bar old height background (Miss on off) rest = missed_bar old height background on off rest

-- the next column of these bytes
unfoldable pub bar : Rings → ℕ → Rgb → List ℕ → Result Bar Refusal
bar old height background bytes = do
  enough ← check ClearLengths (nat_le 2 (length bytes))
  worded_bar old height background (word_of (number_at w16 bytes 0)) (drop 2 bytes)
