-- Numbers drawn by a rule of this project's own, each from a state, which is a number below 2^32.
use Rattle.std.specs.Prelude.{ℕ, zero, suc, ◌+◌, ◌*◌, ◌/◌, ◌%◌, ◌^◌, List, [], ◌∷◌}

-- what was drawn, and the state after it
pub record Drawn (A : Type 0) : Type 0 where
  pub value : A
  pub state : ℕ

-- a way to draw: what comes of each state
abbrev pub Draw : Type 0 → Type 0
Draw A = ℕ → Drawn A

-- a value for which nothing is drawn
abbrev pub gives : {A : Type 0} → A → Draw A
gives value state = record { value = value; state = state }

-- one draw, and from the state after it the one that its value asks for
infixl 10 ◌>>=◌
abbrev pub ◌>>=◌ : {A B : Type 0} → Draw A → (A → Draw B) → Draw B
(one >>= then) state = then (one state).value (one state).state

-- the state after another
abbrev pub next : ℕ → ℕ
next state = (1664525 * state + 1013904223) % 2 ^ 32

-- a number below a bound
unfoldable pub draw : ℕ → Draw ℕ
draw bound state = record { value = next state / 65536 % bound; state = next state }

-- so many draws of one kind, one after another
unfoldable pub several : {A : Type 0} → ℕ → Draw A → Draw (List A)
several zero one = gives []
several (suc count) one = do
  first ← one
  others ← several count one
  gives (first ∷ others)
