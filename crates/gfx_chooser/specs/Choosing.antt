-- Choosers, and how they are asked: this project's own rule.
use Rattle.std.specs.Prelude.{◌≡◌, Bool, List, [], ◌∷◌, Option, Some, None, if◌then◌else◌}
use Rattle.gfx_script.specs.declared.step.Kind.{Kind}
use Rattle.gfx_script.specs.declared.step.Kind.TheVariants.{Residual}
use Rattle.gfx_chooser.specs.declared.facts.Facts.{Facts}

-- a chooser, as far as anybody can tell
pub record Chooser : Type 0 where
  -- what it answers to a paint, once it was asked these
  pub reply : List Facts → Facts → Option Kind
  -- it is spent once it was asked these
  pub is_spent : List Facts → Bool

-- a chooser once it was asked one more
abbrev pub asked : Facts → Chooser → Chooser
asked facts chooser = record {
  reply = λ before next. chooser.reply (facts ∷ before) next;
  is_spent = λ before. chooser.is_spent (facts ∷ before);
}

-- a chooser that was asked stays before these, unless it is spent
abbrev pub kept : Facts → Chooser → List Chooser → List Chooser
kept facts chooser others = if chooser.is_spent (facts ∷ []) then others else asked facts chooser ∷ others

-- the kind that is chosen, and the choosers that are left
pub record Choice : Type 0 where
  pub kind : Kind
  pub left : List Chooser

-- the first has answered, and no other is asked; or it has not, and this is what the others choose
unfoldable pub choice_by : Option Kind → Facts → Chooser → List Chooser → Choice → Choice
choice_by (Some kind) facts chooser others choice = record { kind = kind; left = kept facts chooser others }
choice_by None facts chooser others choice = record { kind = choice.kind; left = kept facts chooser choice.left }

-- choosers are asked in order until one answers; where none does, the picture goes by runs of one colour
unfoldable pub chosen : List Chooser → Facts → Choice
chosen [] facts = record { kind = Residual; left = [] }
chosen (chooser ∷ others) facts = choice_by (chooser.reply [] facts) facts chooser others (chosen others facts)

-- two choosers that nobody can tell apart
pub record Alike (one other : Chooser) : Type 0 where
  pub replies : (before : List Facts) (next : Facts) → one.reply before next ≡ other.reply before next
  pub spends : (before : List Facts) → one.is_spent before ≡ other.is_spent before

-- the same of as many, in order
abbrev pub AreAlike : List Chooser → List Chooser → Type 0
AreAlike [] [] = Unit {0}
AreAlike (one ∷ ones) (other ∷ others) = Alike one other × AreAlike ones others
AreAlike ones others = ⊥
