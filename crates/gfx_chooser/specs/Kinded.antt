-- The kinds that the steps of a script go as, where choosers are asked: this project's own rule.
use Rattle.std.specs.Prelude.{◌≡◌, ℕ, ◌+◌, ◌-◌, ◌≤◌, List, [], ◌∷◌, take, drop, Option, Some, None}
use Rattle.gfx_script.specs.Kinds.{KindedStep, as_kind, kind_of}
use Rattle.gfx_script.specs.Scripted.{Script}
use Rattle.gfx_script.specs.declared.step.Kind.{Kind}
use Rattle.gfx_script.specs.declared.step.Step.{Step}
use Rattle.gfx_chooser.specs.Choosing.{Chooser, AreAlike, chosen}
use Rattle.gfx_chooser.specs.Facts.{facts_in}
use Rattle.gfx_chooser.specs.declared.facts.Facts.{Facts}

-- the kind that a step goes as, and the choosers that are left
pub record Going : Type 0 where
  pub kind : Option Kind
  pub left : List Chooser

-- choosers are asked where there are facts; other steps go as the kind that they name
abbrev pub going_by : Option Facts → Step → List Chooser → Going
going_by None step choosers = record { kind = kind_of step; left = choosers }
going_by (Some facts) step choosers = record { kind = Some (chosen choosers facts).kind; left = (chosen choosers facts).left }

-- how a step of this number goes
unfoldable pub going : Script → ℕ → Step → List Chooser → Going
going script number step choosers = going_by (facts_in script number step) step choosers

-- steps with the kinds that they go as; the first has this number
unfoldable pub kinded : Script → ℕ → List Chooser → List Step → List KindedStep
kinded script number choosers [] = []
kinded script number choosers (step ∷ steps) =
    as_kind (going script number step choosers).kind step ∷ kinded script (number + 1) (going script number step choosers).left steps

-- the choosers that are left after them
unfoldable pub left_after : Script → ℕ → List Chooser → List Step → List Chooser
left_after script number choosers [] = choosers
left_after script number choosers (step ∷ steps) = left_after script (number + 1) (going script number step choosers).left steps

-- all steps of a script
abbrev pub kinded_steps : Script → List Chooser → List KindedStep
kinded_steps script choosers = kinded script 1 choosers script.steps

-- the choosers that are left after all of them
abbrev pub left_of : Script → List Chooser → List Chooser
left_of script choosers = left_after script 1 choosers script.steps

-- the steps of a script behind one of these numbers, up to and including the other
abbrev pub steps_between : Script → ℕ → ℕ → List Step
steps_between script first last = take (last - first) (drop first script.steps)

-- the choosers were asked of these steps, and so they are left
pub record Asks (script : Script) (first last : ℕ) (old new : List Chooser) : Type 0 where
  pub further : first ≤ last
  pub left : AreAlike new (left_after script (first + 1) old (steps_between script first last))

-- how a step goes was asked
pub record GoesSo (script : Script) (number : ℕ) (step : Step) (kind : Option Kind) (old new : List Chooser) : Type 0 where
  pub kind_is : kind ≡ (going script number step old).kind
  pub left : AreAlike new (going script number step old).left

-- the same of a step that may be missing
abbrev pub Goes : Script → ℕ → Option Step → Option Kind → List Chooser → List Chooser → Type 0
Goes script number None kind old new = ⊥
Goes script number (Some step) kind old new = GoesSo script number step kind old new
