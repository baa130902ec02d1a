-- What holds of the kinds that choosers give: this project's own promise.
use Rattle.std.specs.Prelude.{List}
use Rattle.gfx_script.specs.Kinds.{Fits}
use Rattle.gfx_script.specs.Scripted.{Script}
use Rattle.gfx_chooser.specs.Choosing.{Chooser}
use Rattle.gfx_chooser.specs.Kinded.{kinded_steps}

-- whatever the choosers answer, each step of a script goes as a kind that it may go as
abbrev pub ChosenKindsFit : Type 0
ChosenKindsFit = (script : Script) (choosers : List Chooser) → Fits (kinded_steps script choosers) script.steps
