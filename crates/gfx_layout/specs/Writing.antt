-- What a call that writes did to the bytes it was given: this project's own rule.
use Rattle.std.specs.Prelude.{◌≡◌, ℕ, List, ◌++◌, length, take, Result, Ok, Err}

-- it put this text at their end, or, where memory ended, kept what was there
abbrev pub Puts : {E : Type 0} → Result (Unit {0}) E → List ℕ → List ℕ → List ℕ → Type 0
Puts (Ok x) old new text = new ≡ old ++ text
Puts (Err e) old new text = take (length old) new ≡ old
