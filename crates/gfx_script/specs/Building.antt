-- A script that is built by calls: this project's own rule.
use Rattle.std.specs.Prelude.{◌≡◌, ℕ, ◌≤◌, ◌++◌, nat_lt, List, [], ◌∷◌, length, Option, Result, Ok}
use Rattle.std.specs.List.{AllByRecursion}
use Rattle.gfx_base.specs.declared.geometry.Point.{Point}
use Rattle.gfx_base.specs.Results.{◌>>=◌, check}
use Rattle.gfx_caps.specs.Offers.{small_of}
use Rattle.gfx_script.specs.declared.TheConstants.{MOST_TURNS}
use Rattle.gfx_script.specs.declared.error.ScriptKind.{ScriptKind}
use Rattle.gfx_script.specs.declared.error.ScriptKind.TheVariants.{Range, Unframed}
use Rattle.gfx_script.specs.declared.head.HeadParts.{HeadParts}
use Rattle.gfx_script.specs.declared.picture.Picture.{Picture}
use Rattle.gfx_script.specs.declared.step.Kind.{Kind}
use Rattle.gfx_script.specs.declared.step.Step.{Step}
use Rattle.gfx_script.specs.declared.turn.Turn.{Turn}
use Rattle.gfx_script.specs.Checks.{held_from}
use Rattle.gfx_script.specs.Drafts.{Draft, GoesOn, grown_by, nothing_drafted, painted, pushed, with_picture}
use Rattle.gfx_script.specs.Heads.{IsHead, head_of, head_parts, script_from}
use Rattle.gfx_script.specs.Script.{IsAccepted, IsTurn, is_framed, is_turn}
use Rattle.gfx_script.specs.Scripted.{Script}
use Rattle.gfx_script.specs.Stock.{no_bitmaps}

-- a script under way
pub record Building : Type 0 where
  pub head : HeadParts
  pub draft : Draft
  pub turns : List Turn

-- nothing yet
abbrev pub nothing_built : HeadParts → Building
nothing_built head = record { head = head; draft = nothing_drafted (no_bitmaps (small_of head.offers)); turns = [] }

-- a picture is added; its number is how many were before it
unfoldable pub picture_built : Building → Picture → Result (ℕ × Building) ScriptKind
picture_built building picture = do
  added ← with_picture building.draft picture
  Ok (added.0, record building { draft = added.1 })

-- a step is pushed
unfoldable pub step_built : Building → Step → Result Building ScriptKind
step_built building step = do
  draft ← pushed building.draft step
  Ok (record building { draft = draft })

-- a picture and its paint in one
unfoldable pub paint_built : Building → Picture → ℕ → Point → Option Kind → Option ℕ → Result Building ScriptKind
paint_built building picture id at kind glyph = do
  draft ← painted building.draft picture id at kind glyph
  Ok (record building { draft = draft })

-- a turn is pushed
unfoldable pub turn_built : Building → Turn → Result Building ScriptKind
turn_built building turn = do
  room ← check Range (nat_lt (length building.turns) MOST_TURNS)
  number ← check Range (is_turn turn)
  Ok (record building { turns = building.turns ++ turn ∷ [] })

-- the script of what was pushed
abbrev pub script_so_far : Building → Script
script_so_far building = record (grown_by (script_from building.head []) building.draft) { turns = building.turns }

-- it is a script where its last step is a frame
unfoldable pub built : Building → Result Script ScriptKind
built building = do
  framed ← check Unframed (is_framed building.draft.steps)
  Ok (script_so_far building)

-- what holds of a script under way
pub record IsUnderWay (building : Building) : Type 0 where
  pub head : IsHead building.head
  pub goes : GoesOn (held_from [] (no_bitmaps (small_of building.head.offers))) 0 building.draft
  pub few_turns : length building.turns ≤ MOST_TURNS
  pub turns : AllByRecursion IsTurn building.turns

-- ---- any script

-- one call after another, until one refuses
unfoldable pub each_in_turn : {B X : Type 0} → (B → X → Result B ScriptKind) → B → List X → Result B ScriptKind
each_in_turn call at [] = Ok at
each_in_turn call at (x ∷ xs) = do
  next ← call at x
  each_in_turn call next xs

-- a picture is added, whatever its number
unfoldable pub picture_only : Building → Picture → Result Building ScriptKind
picture_only building picture = do
  added ← picture_built building picture
  Ok added.1

-- the calls for a script: its head, its pictures, its steps, its turns
unfoldable pub built_by_calls : Script → Result Script ScriptKind
built_by_calls script = do
  head ← head_of (head_parts script)
  drawn ← each_in_turn picture_only (nothing_built head) script.pictures
  stepped ← each_in_turn step_built drawn script.steps
  turned ← each_in_turn turn_built stepped script.turns
  built turned

-- whatever script is accepted that starts with nothing, the calls for it refuse nothing and give it
abbrev pub AcceptedScriptsAreBuilt : Type 0
AcceptedScriptsAreBuilt = (script : Script) → script.start ≡ [] → IsAccepted script → built_by_calls script ≡ Ok script
