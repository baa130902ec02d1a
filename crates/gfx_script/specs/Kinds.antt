-- The kinds that the steps of a script go as: this project's own rule.
use Rattle.std.specs.Prelude.{◌≡◌, Bool, true, false, List, map, Option, Some, None, IsSome, IfSome, unwrap_or}
use Rattle.std.specs.List.{AllByRecursion}
use Rattle.gfx_script.specs.declared.step.Kind.{Kind}
use Rattle.gfx_script.specs.declared.step.Kind.TheVariants.{Raw, Residual, Bands, Palette, Plain, Progressive, Video}
use Rattle.gfx_script.specs.declared.step.Step.{Step}
use Rattle.gfx_script.specs.declared.step.Step.TheVariants.{Paint}

-- a paint of this kind sets the pixels of its picture and nothing else
abbrev pub is_plain_write : Kind → Bool
is_plain_write Raw = true
is_plain_write Residual = true
is_plain_write Bands = true
is_plain_write Palette = true
is_plain_write Plain = true
is_plain_write Progressive = false
is_plain_write Video = false

-- the kind that a paint goes as where nothing else chooses one: the kind that it names, or runs of one colour.
-- None of another step
abbrev pub kind_of : Step → Option Kind
kind_of (Paint id picture at named glyph) = Some (unwrap_or named Residual)
kind_of step = None

-- a step with the kind that it goes as
pub record KindedStep : Type 0 where
  pub step : Step
  pub kind : Option Kind

-- a step goes as a kind
abbrev pub as_kind : Option Kind → Step → KindedStep
as_kind kind step = record { step = step; kind = kind }

-- a step that goes as the kind that it names, where nothing else chooses one
abbrev pub own : Step → KindedStep
own step = as_kind (kind_of step) step

-- a paint goes as some kind, which is the one that it names where it names one; other steps go as none
abbrev pub GoesAs : Option Kind → Step → Type 0
GoesAs kind (Paint id picture at named glyph) = IsSome kind × IfSome named (λ one. kind ≡ Some one)
GoesAs kind step = kind ≡ None

-- the same of a step with its kind
abbrev pub HasKind : KindedStep → Type 0
HasKind one = GoesAs one.kind one.step

-- these are the steps, each with a kind that it may go as
pub record Fits (kinded : List KindedStep) (steps : List Step) : Type 0 where
  pub same : map (λ one. one.step) kinded ≡ steps
  pub kinds : AllByRecursion HasKind kinded
