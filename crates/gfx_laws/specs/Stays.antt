-- A pixel stays as it is until a step writes it: this project's own promise.
use Rattle.std.specs.Prelude.{◌≡◌, ℕ, ◌<◌, List, [], ◌∷◌, ◌++◌, Some}
use Rattle.std.specs.FinMap.{get}
use Rattle.gfx_script.specs.declared.step.Step.{Step}
use Rattle.gfx_script.specs.declared.step.Step.TheVariants.{Improve}
use Rattle.gfx_script.specs.Kinds.{Fits, KindedStep}
use Rattle.gfx_script.specs.Script.{IsAccepted}
use Rattle.gfx_script.specs.Scripted.{Script}
use Rattle.gfx_script.specs.Writes.{writes_by}
use Rattle.gfx_surface.specs.Picture.{Picture, pixel_at}
use Rattle.gfx_planner.specs.Bitmaps.{sides_kept}
use Rattle.gfx_planner.specs.Wanted.{Wanted}
use Rattle.gfx_planner.specs.Want.{want, wanted_after}
use Rattle.gfx_planner.specs.Within.{IsOutside}
use Rattle.gfx_laws.specs.Raised.{IsOfNoRaised}

-- a surface is there and has a pixel at column x of row y
pub record IsOn (wanted : Wanted) (id x y : ℕ) : Type 0 where
  pub picture : Picture
  pub there : get wanted.shown.surfaces id ≡ Some picture
  pub column : x < picture.width
  pub row : y < picture.height

-- a step doesn't write this pixel: none of its rectangles has it; an improvement raises no tile that paints it
abbrev pub Leaves : Script → Wanted → Step → ℕ → ℕ → ℕ → Type 0
Leaves script wanted (Improve other) id x y = other ≡ id → IsOfNoRaised wanted id x y
Leaves script wanted step id x y = IsOutside (writes_by script (sides_kept wanted.plan wanted.slots) step) id x y

-- it stays on its surface through these steps, none of which writes it
abbrev pub StaysOn : Script → Wanted → List KindedStep → ℕ → ℕ → ℕ → Type 0
StaysOn script wanted [] id x y = IsOn wanted id x y
StaysOn script wanted (one ∷ steps) id x y = IsOn wanted id x y × (Leaves script wanted one.step id x y × StaysOn script (wanted_after script wanted one) steps id x y)

-- then it is as it was: what a paint drew, or what a tile shows, until a later step of an accepted script writes there
abbrev pub PixelsStayUntilWritten : Type 0
PixelsStayUntilWritten =
    (script : Script) (front steps rest : List KindedStep) (id x y : ℕ) (before after : Picture) → IsAccepted script → Fits (front ++ (steps ++ rest)) script.steps
    → StaysOn script (want script front) steps id x y → get (want script front).shown.surfaces id ≡ Some before → get (want script (front ++ steps)).shown.surfaces id ≡ Some after
    → pixel_at after x y ≡ pixel_at before x y
