-- What the bytes of the writer are, said without a walk over pixels.
use Rattle.std.specs.Prelude.{◌≡◌, ℕ, ◌<◌, Bool, false, List, [], ◌∷◌, replicate}
use Rattle.std.specs.List.{flat_map}
use Rattle.gfx_base.specs.declared.pixel.Rgb.{Rgb}
use Rattle.gfx_base.specs.Colour.{same_colour}
use Rattle.gfx_clear_runs.specs.Writing.{Run, run_spelled}

abbrev pub pixels_in_run : Run → List Rgb
pixels_in_run part = replicate part.count part.colour

-- the pixels of runs, one run after another
abbrev pub pixels_of_runs : List Run → List Rgb
pixels_of_runs = flat_map pixels_in_run

-- runs begin with a colour
unfoldable pub starts : Rgb → List Run → Bool
starts colour [] = false
starts colour (next ∷ runs) = same_colour colour next.colour

-- no run is empty, and none could go on in the next
unfoldable pub AreLongest : List Run → Type 0
AreLongest [] = Unit {0}
AreLongest (part ∷ runs) = (0 < part.count) × (starts part.colour runs ≡ false) × AreLongest runs

-- the bytes are a residual layer of longest runs of these pixels, each with its shortest run length
pub record IsForm (pixels : List Rgb) (bytes : List ℕ) : Type 0 where
  pub runs : List Run
  pub longest : AreLongest runs
  pub gives : pixels_of_runs runs ≡ pixels
  pub spelled : bytes ≡ flat_map run_spelled runs
