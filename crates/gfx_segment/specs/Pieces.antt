-- What the steps of reading and writing blocks come to: this project's own words.
use Rattle.std.specs.Prelude.{◌≡◌, ℕ, List, ◌++◌, length, take, Result, Ok, Err}
use Rattle.gfx_base.specs.Results.{and_then}
use Rattle.gfx_base.specs.declared.refusal.Refusal.{Refusal}
use Rattle.gfx_base.specs.declared.answer.NoMemory.{NoMemory}

-- content that is found, behind what was found before
unfoldable pub onto : List ℕ → Result (List ℕ × List ℕ) Refusal → Result (List ℕ × List ℕ) Refusal
onto before found = and_then found (λ f. Ok (before ++ f.0, f.1))

-- the old bytes still stand at the front
pub record Keeps (old new : List ℕ) : Type 0 where
  pub kept : take (length old) new ≡ old

-- all of these bytes, or without memory any number of bytes behind the old ones
abbrev pub Puts : Result (Unit {0}) NoMemory → List ℕ → List ℕ → List ℕ → Type 0
Puts (Ok done) old new due = new ≡ old ++ due
Puts (Err fault) old new due = Keeps old new
