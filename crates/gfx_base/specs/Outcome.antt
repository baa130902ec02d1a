-- What a call answered, against the answer that is due: this project's own rule. Want of memory is the
-- one free answer.
use Rattle.std.specs.Prelude.{◌≡◌, Bool, true, Result, Ok, Err}
use Rattle.gfx_base.specs.declared.answer.Cause.{Cause}
use Rattle.gfx_base.specs.declared.answer.Cause.TheVariants.{Refused, Memory}

-- the answer of a call that changes nothing, seen by view
abbrev pub Gives : {X Y R : Type 0} → (X → Y) → Result X (Cause R) → Result Y R → Type 0
Gives view (Ok x) due = due ≡ Ok (view x)
Gives view (Err Memory) due = Unit {0}
Gives view (Err (Refused r)) due = due ≡ Err r

-- the same of a call that takes no memory
abbrev pub Says : {X Y R : Type 0} → (X → Y) → Result X R → Result Y R → Type 0
Says view (Ok x) due = due ≡ Ok (view x)
Says view (Err r) due = due ≡ Err r

-- the answer of a call on an object: the state that is due, or the object as it was
abbrev pub Applies : {S R : Type 0} → Result (Unit {0}) (Cause R) → S → S → Result S R → Type 0
Applies (Ok x) old new due = due ≡ Ok new
Applies (Err Memory) old new due = new ≡ old
Applies (Err (Refused r)) old new due = (due ≡ Err r) × (new ≡ old)

-- the same of a call that takes no memory
abbrev pub Performs : {S R : Type 0} → Result (Unit {0}) R → S → S → Result S R → Type 0
Performs (Ok x) old new due = due ≡ Ok new
Performs (Err r) old new due = (due ≡ Err r) × (new ≡ old)

-- memory is wanting only where this holds: mostly where what is due is no refusal
abbrev pub WantsOnlyIf : {X R : Type 0} → Result X (Cause R) → Bool → Type 0
WantsOnlyIf (Ok x) may = Unit {0}
WantsOnlyIf (Err Memory) may = may ≡ true
WantsOnlyIf (Err (Refused r)) may = Unit {0}
