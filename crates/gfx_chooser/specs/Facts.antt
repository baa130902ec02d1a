-- What a chooser is told of a paint that names no kind: this project's own rule.
use Rattle.std.specs.Prelude.{ℕ, List, length, map, min, Option, Some, None}
use Rattle.std.specs.List.{slice_get}
use Rattle.gfx_base.specs.Colour.{colour_of, colours_of}
use Rattle.gfx_base.specs.declared.pixel.Rgb.{Rgb}
use Rattle.gfx_script.specs.Patterns.{pixel_of}
use Rattle.gfx_script.specs.Script.{step_at}
use Rattle.gfx_script.specs.Scripted.{Script}
use Rattle.gfx_script.specs.declared.picture.Picture.{Picture}
use Rattle.gfx_script.specs.declared.step.Step.{Step}
use Rattle.gfx_script.specs.declared.step.Step.TheVariants.{Paint}
use Rattle.gfx_surface.specs.Picture.{drawn}
use Rattle.gfx_chooser.specs.declared.facts.Facts.{Facts}
use Rattle.gfx_chooser.specs.declared.facts.TheConstants.{MOST_COLOURS}

-- the colours of a picture's pixels, row by row from the top
unfoldable pub colours_in : Picture → List Rgb
colours_in picture = map colour_of (drawn picture.width picture.height (pixel_of picture))

-- how many different ones it has; the most that are counted where it has more
abbrev pub colours_counted : Picture → ℕ
colours_counted picture = min (length (colours_of (colours_in picture))) MOST_COLOURS

-- the facts of a paint of a picture, if there is one
abbrev pub facts_with : ℕ → ℕ → Option Picture → Option Facts
facts_with number surface None = None
facts_with number surface (Some picture) = Some record {
  step = number;
  surface = surface;
  width = picture.width;
  height = picture.height;
  colours = colours_counted picture;
  picture = picture;
}

-- the facts of a step of this number: those of a paint that names no kind
unfoldable pub facts_in : Script → ℕ → Step → Option Facts
facts_in script number (Paint id picture at None glyph) = facts_with number id (slice_get script.pictures picture)
facts_in script number step = None

-- of a step that may be missing
abbrev pub facts_at : Script → ℕ → Option Step → Option Facts
facts_at script number None = None
facts_at script number (Some step) = facts_in script number step

-- of the step of a number, counted from 1
abbrev pub facts_of : Script → ℕ → Option Facts
facts_of script number = facts_at script number (step_at script.steps number)
