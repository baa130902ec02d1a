-- Pictures and steps that are pushed one after another and stand in no script yet: this project's own rule. Each is
-- checked as the reader of scripts checks the same one.
use Rattle.std.specs.Prelude.{◌≡◌, ℕ, ◌+◌, ◌-◌, ◌≤◌, Bool, nat_lt, List, [], ◌∷◌, ◌++◌, length, take, Option, Result, Ok}
use Rattle.std.specs.List.{AllByRecursion}
use Rattle.gfx_base.specs.declared.geometry.Point.{Point}
use Rattle.gfx_base.specs.Results.{◌>>=◌, check}
use Rattle.gfx_script.specs.declared.TheConstants.{MOST_STEPS}
use Rattle.gfx_script.specs.declared.error.ScriptKind.{ScriptKind}
use Rattle.gfx_script.specs.declared.error.ScriptKind.TheVariants.{Range}
use Rattle.gfx_script.specs.declared.held.Sides.{Sides}
use Rattle.gfx_script.specs.declared.picture.Picture.{Picture}
use Rattle.gfx_script.specs.declared.step.Kind.{Kind}
use Rattle.gfx_script.specs.declared.step.Step.{Step}
use Rattle.gfx_script.specs.declared.step.Step.TheVariants.{Frame, Paint}
use Rattle.gfx_script.specs.Checks.{Held, held_after, held_from, held_through, sides_of_all}
use Rattle.gfx_script.specs.Pictures.{IsDrawn, is_drawn}
use Rattle.gfx_script.specs.Script.{IsStep, is_step}
use Rattle.gfx_script.specs.Scripted.{Script}
use Rattle.gfx_script.specs.Stock.{Stock}

-- pictures and steps that were pushed
pub record Draft : Type 0 where
  -- what all steps so far have left, those of the script before it too, as far as later ones are checked against it.
  -- Its pictures are the sides of all pictures so far
  pub held : Held
  pub pictures : List Picture
  pub steps : List Step
  -- how many steps the script has before it
  pub before : ℕ

-- nothing yet, before the first step of a script that starts with these bitmaps
abbrev pub nothing_drafted : Stock → Draft
nothing_drafted stock = record { held = held_from [] stock; pictures = []; steps = []; before = 0 }

-- ---- pictures

-- the sides of a picture
abbrev pub sides_of : Picture → Sides
sides_of picture = record { width = picture.width; height = picture.height }

-- the sides of one more picture are held, and those of the last no more
abbrev pub with_sides : Held → Sides → Held
with_sides held sides = record held { pictures = held.pictures ++ sides ∷ [] }

abbrev pub without_last_sides : Held → Held
without_last_sides held = record held { pictures = take (length held.pictures - 1) held.pictures }

-- one more picture may come: each paint may have one of its own
abbrev pub has_room_for_picture : Draft → Bool
has_room_for_picture draft = nat_lt (length draft.held.pictures) MOST_STEPS

-- one more picture
abbrev pub behind_picture : Draft → Picture → Draft
behind_picture draft picture = record draft { held = with_sides draft.held (sides_of picture); pictures = draft.pictures ++ picture ∷ [] }

-- a picture is added; its number is how many were before it
unfoldable pub with_picture : Draft → Picture → Result (ℕ × Draft) ScriptKind
with_picture draft picture = do
  room ← check Range (has_room_for_picture draft)
  drawn ← check Range (is_drawn picture)
  Ok (length draft.held.pictures, behind_picture draft picture)

-- the last picture is taken back
abbrev pub without_picture : Draft → Draft
without_picture draft = record draft { held = without_last_sides draft.held; pictures = take (length draft.pictures - 1) draft.pictures }

-- ---- steps

-- how many steps the script has with these
abbrev pub steps_so_far : Draft → ℕ
steps_so_far draft = draft.before + length draft.steps

-- one more step, which leaves this
abbrev pub behind_step : Draft → Step → Held → Draft
behind_step draft step held = record draft { held = held; steps = draft.steps ++ step ∷ [] }

-- a step is pushed: counts and numbers first, then what is held
unfoldable pub pushed : Draft → Step → Result Draft ScriptKind
pushed draft step = do
  room ← check Range (nat_lt (steps_so_far draft) MOST_STEPS)
  numbers ← check Range (is_step step)
  held ← held_after draft.held step
  Ok (behind_step draft step held)

-- a picture and its paint in one
unfoldable pub painted : Draft → Picture → ℕ → Point → Option Kind → Option ℕ → Result Draft ScriptKind
painted draft picture id at kind glyph = do
  added ← with_picture draft picture
  pushed added.1 (Paint id added.0 at kind glyph)

-- ---- behind a script

-- a draft goes on from what is held where a script has so many steps
pub record GoesOn (from : Held) (count : ℕ) (draft : Draft) : Type 0 where
  pub drawn : AllByRecursion IsDrawn draft.pictures
  pub numbers : AllByRecursion IsStep draft.steps
  pub checked : held_through (record from { pictures = from.pictures ++ sides_of_all draft.pictures }) draft.steps ≡ Ok draft.held
  pub few : count + length draft.steps ≤ MOST_STEPS
  pub few_pictures : length draft.held.pictures ≤ MOST_STEPS
  pub place : draft.before ≡ count

-- a script that has grown by a draft
abbrev pub grown_by : Script → Draft → Script
grown_by script draft = record script { pictures = script.pictures ++ draft.pictures; steps = script.steps ++ draft.steps }

-- the draft that is left then
abbrev pub moved_out : Draft → Draft
moved_out draft = record draft { pictures = []; steps = []; before = steps_so_far draft }

-- `frame` is pushed, and the script grows by all of the draft
unfoldable pub frame_ended : Script → Draft → Result (Script × Draft) ScriptKind
frame_ended script draft = do
  ended ← pushed draft Frame
  Ok (grown_by script ended, moved_out ended)

-- the last step is taken back, which left what was held as it was
abbrev pub without_step : Draft → Draft
without_step draft = record draft { steps = take (length draft.steps - 1) draft.steps }

-- all steps are taken back, which left what was held as it was
abbrev pub without_steps : Draft → Draft
without_steps draft = record draft { steps = [] }
