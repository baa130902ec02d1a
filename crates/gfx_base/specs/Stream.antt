-- What a call does to the outside: this project's own rule. A count of faults never falls; a call
-- that fails has raised it, or found it at its last value.
use Rattle.std.specs.Prelude.{◌≡◌, ℕ, ◌<◌, ◌≤◌, List, [], ◌++◌, Option, Some, None, Result, Ok, Err}

-- the last value of a count of faults, where it stays
abbrev pub LAST : ℕ
LAST = 18446744073709551615

-- the count rose, or stands at its last value
abbrev pub Rose : ℕ → ℕ → Type 0
Rose before now = now < LAST → before < now

-- what is held, where it was told, gained these bytes at its end
abbrev pub Gained : Option (List ℕ) → List ℕ → Option (List ℕ) → Type 0
Gained None bytes new = Unit {0}
Gained (Some old) bytes None = ⊥
Gained (Some old) bytes (Some new) = new ≡ old ++ bytes

-- what is left, where it was told, lost these bytes at its front; no bytes only where none was left
abbrev pub Gave : Option (List ℕ) → List ℕ → Option (List ℕ) → Type 0
Gave None bytes None = Unit {0}
Gave None bytes (Some new) = bytes ≡ [] → new ≡ []
Gave (Some old) bytes None = ⊥
Gave (Some old) bytes (Some new) = (old ≡ bytes ++ new) × (bytes ≡ [] → new ≡ [])

-- what was told is as it was
abbrev pub Keeps : Option (List ℕ) → Option (List ℕ) → Type 0
Keeps None new = Unit {0}
Keeps (Some old) new = new ≡ Some old

-- where it is told, it is this
abbrev pub Tells : Option (List ℕ) → List ℕ → Type 0
Tells None bytes = Unit {0}
Tells (Some told) bytes = bytes ≡ told

-- a sink before and after: its counts of faults, and what it holds
pub record Change : Type 0 where
  pub before : ℕ
  pub now : ℕ
  pub old : Option (List ℕ)
  pub new : Option (List ℕ)

abbrev pub change : ℕ → ℕ → Option (List ℕ) → Option (List ℕ) → Change
change before now old new = record { before = before; now = now; old = old; new = new }

-- no fault, and exactly these bytes
pub record Gains (c : Change) (bytes : List ℕ) : Type 0 where
  pub count : c.now ≡ c.before
  pub gained : Gained c.old bytes c.new

-- a part of these bytes, from their front
pub record GainsPart (c : Change) (due : List ℕ) : Type 0 where
  pub sent : List ℕ
  pub rest : List ℕ
  pub cut : due ≡ sent ++ rest
  pub gained : Gained c.old sent c.new

-- a fault, after a part of these bytes
pub record FailsAfter (c : Change) (due : List ℕ) : Type 0 where
  pub falls : c.before ≤ c.now
  pub rose : Rose c.before c.now
  pub part : GainsPart c due

-- all of these bytes, or a fault
abbrev pub Writes : {E : Type 0} → Result (Unit {0}) E → Change → List ℕ → Type 0
Writes (Ok x) c due = Gains c due
Writes (Err e) c due = FailsAfter c due
