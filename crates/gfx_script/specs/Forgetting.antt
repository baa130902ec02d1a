-- What a script forgets of steps that were sent, so that it takes no memory for them any more: a frame stands for each step
-- then, and a blank picture for each picture, so that what comes later has the numbers that it had. This project's own rule.
use Rattle.std.specs.Prelude.{ℕ, ◌≤◌, ◌++◌, length, drop, replicate}
use Rattle.gfx_base.specs.declared.pixel.Pixel.{Pixel}
use Rattle.gfx_script.specs.declared.picture.Pattern.TheVariants.{Solid}
use Rattle.gfx_script.specs.declared.picture.Picture.{Picture}
use Rattle.gfx_script.specs.declared.step.Step.{Step}
use Rattle.gfx_script.specs.declared.step.Step.TheVariants.{Frame, Paint}
use Rattle.gfx_script.specs.Checks.{Held}
use Rattle.gfx_script.specs.Drafts.{Draft, sides_of}
use Rattle.gfx_script.specs.Scripted.{Script}

-- an opaque black pixel
abbrev pub black : Pixel
black = record { b = 0; g = 0; r = 0; a = 255 }

-- the picture that stands for one that is forgotten: a black pixel
abbrev pub blank : Picture
blank = record { width = 1; height = 1; pattern = Solid black }

-- a script that has forgotten all of its steps and pictures
abbrev pub forgotten : Script → Script
forgotten script = record script {
  pictures = replicate (length script.pictures) blank;
  steps = replicate (length script.steps) Frame;
}

-- what is held, where so many of the first pictures are forgotten
abbrev pub sides_forgotten : ℕ → Held → Held
sides_forgotten count held = record held { pictures = replicate count (sides_of blank) ++ drop count held.pictures }

-- the same behind which a draft goes on
abbrev pub draft_forgotten : ℕ → Draft → Draft
draft_forgotten count draft = record draft { held = sides_forgotten count draft.held }

-- a paint's picture is that of this number or a later one
abbrev pub PaintsFrom : ℕ → Step → Type 0
PaintsFrom first (Paint id picture at named glyph) = first ≤ picture
PaintsFrom first step = Unit {0}
