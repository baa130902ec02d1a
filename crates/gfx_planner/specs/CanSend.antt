-- When a step can be sent: what the planner's own functions ask of it. No caller is asked for it, since it follows from the
-- checks that the step has passed. This project's own rule.
use Rattle.std.specs.Prelude.{ℕ, Option, Some, None, ◌≡◌, true, IfSome}
use Rattle.std.specs.List.{slice_get, AllByRecursion}
use Rattle.gfx_base.specs.Geometry.{IsRect}
use Rattle.gfx_prog_live.specs.Live.{Passes}
use Rattle.gfx_script.specs.declared.step.Step.{Step}
use Rattle.gfx_script.specs.declared.step.Step.TheVariants.{Paint}
use Rattle.gfx_script.specs.Scripted.{Script}
use Rattle.gfx_script.specs.Writes.{place_of, writes_by}
use Rattle.gfx_state.specs.Sending.{IsCarried}
use Rattle.gfx_base.specs.Cells.{has_pixels}
use Rattle.gfx_prog_live.specs.Inside.{AreBy}
use Rattle.gfx_quant.specs.Setting.{is_accepted}
use Rattle.gfx_script.specs.declared.held.Sides.{Sides}
use Rattle.gfx_planner.specs.Made.{Made}

-- it can be put, and each of its messages fits a channel message
abbrev pub CanBeSent : Option Made → Type 0
CanBeSent None = ⊥
CanBeSent (Some found) = AllByRecursion IsCarried found.pdus

-- the place of a paint is a rectangle that fits its fields ([MS-RDPEGFX] 2.2.1.2) and has pixels
unfoldable pub IsPlaced : Script → Step → Type 0
IsPlaced script (Paint id picture at named glyph) =
    IfSome (slice_get script.pictures picture) (λ source. IsRect (place_of source at) × (has_pixels (place_of source at) ≡ true))
IsPlaced script step = Unit {0}

-- what a step that goes as tiles, in passes or as video, needs beside what is there: the script's setting is accepted, all
-- live tiles are by it, and a paint has such a place
pub record MayGoAsTiles (script : Script) (passes : Passes) (step : Step) : Type 0 where
  pub accepted : is_accepted script.setting ≡ true
  pub by : AreBy script.setting passes.live
  pub placed : IsPlaced script step

-- where a step writes, each rectangle fits its fields ([MS-RDPEGFX] 2.2.1.2)
unfoldable pub FitsAt : Script → (ℕ → Option Sides) → Step → Type 0
FitsAt script sides_of step = IfSome (writes_by script sides_of step) (λ written. AllByRecursion IsRect written.rects)
