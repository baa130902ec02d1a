-- Choosers of one type as what can be told of them.
use Rattle.std.specs.Prelude.{Bool, List, map, Option}
use Rattle.gfx_script.specs.declared.step.Kind.{Kind}
use Rattle.gfx_chooser.specs.Choosing.{Chooser}
use Rattle.gfx_chooser.specs.declared.facts.Facts.{Facts}

-- a value of a type of choosers, whose answers are these
abbrev pub seen_by : {S : Type 0} → (S → List Facts → Facts → Option Kind) → (S → List Facts → Bool) → S → Chooser
seen_by reply is_spent value = record { reply = reply value; is_spent = is_spent value }

-- a list of them
abbrev pub seen : {S : Type 0} → (S → List Facts → Facts → Option Kind) → (S → List Facts → Bool) → List S → List Chooser
seen reply is_spent values = map (seen_by reply is_spent) values
