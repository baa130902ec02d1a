-- What the first pass of a picture costs, roughly: this project's own rule, found by trying pictures. RemoteFX Progressive
-- ([MS-RDPEGFX] 2.2.4.2) keeps each tile of 64 by 64 pixels by its waves, of which edges have most.
use Rattle.std.specs.Prelude.{ℕ, ◌+◌, ◌-◌, ◌*◌, ◌/◌, List, [], ◌∷◌}
use Rattle.gfx_base.specs.declared.pixel.Rgb.{Rgb}
use Rattle.gfx_chooser.specs.Facts.{colours_in}
use Rattle.gfx_clear_bands.specs.Writing.{black}
use Rattle.gfx_script.specs.declared.picture.Picture.{Picture}
use Rattle.gfx_estimate.specs.declared.sizes.TheConstants.{TILE, STEP}

-- how far one number is from another
abbrev pub apart : ℕ → ℕ → ℕ
apart m n = (m - n) + (n - m)

-- how large the step from one colour to another is
abbrev pub step_between : Rgb → Rgb → ℕ
step_between c d = apart c.b d.b + apart c.g d.g + apart c.r d.r

-- all steps from one pixel to the next, from this colour on
unfoldable pub steps_from : Rgb → List Rgb → ℕ
steps_from last [] = 0
steps_from last (colour ∷ colours) = step_between last colour + steps_from colour colours

-- how many tiles there are
abbrev pub tiles_in : Picture → ℕ
tiles_in picture = ((picture.width + 63) / 64) * ((picture.height + 63) / 64)

-- so many bytes for each tile, and one for steps that are so large together
unfoldable pub passes_size : Picture → ℕ
passes_size picture = TILE * tiles_in picture + steps_from black (colours_in picture) / STEP
