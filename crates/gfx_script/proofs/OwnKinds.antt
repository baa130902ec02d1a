-- Steps may go as the kinds that they name, or as runs of one colour where they name none.
use Rattle.std.proofs.Common.{◌≡◌, List, [], ◌∷◌, map, Option, Some, None, IfSome, refl, ap}
use Rattle.std.specs.List.{AllByRecursion}
use Rattle.std.specs.Option.{unwrap_or}
use Rattle.gfx_script.specs.declared.step.Kind.{Kind}
use Rattle.gfx_script.specs.declared.step.Kind.TheVariants.{Residual}
use Rattle.gfx_script.specs.declared.step.Step.{Step}
use Rattle.gfx_script.specs.declared.step.Step.TheVariants.{Paint}
use Rattle.gfx_script.specs.Kinds.{HasKind, Fits, own}

named_kind : (named : Option Kind) → IfSome named (λ one. ◌≡◌ {A = Option Kind} (Some (unwrap_or named Residual)) (Some one))
named_kind None = tt
named_kind (Some one) = refl

-- a step may go as its own kind
pub own_goes : (step : Step) → HasKind (own step)
own_goes (Paint id picture at named glyph) = (refl, named_kind named)
own_goes step = refl

-- the same of each of these steps
pub all_own_go : (steps : List Step) → AllByRecursion (λ step. HasKind (own step)) steps
all_own_go [] = tt
all_own_go (step ∷ steps) = (own_goes step, all_own_go steps)

own_kinds : (steps : List Step) → AllByRecursion HasKind (map own steps)
own_kinds [] = tt
own_kinds (step ∷ steps) = (own_goes step, own_kinds steps)

same_steps : (steps : List Step) → map (λ one. one.step) (map own steps) ≡ steps
same_steps [] = refl
same_steps (step ∷ steps) = ap (λ others. step ∷ others) (same_steps steps)

-- steps with their own kinds are these steps
pub own_steps_fit : (steps : List Step) → Fits (map own steps) steps
own_steps_fit steps = record { same = same_steps steps; kinds = own_kinds steps }
