-- Steps that may be refused, one after another: the first refusal ends them.
use Rattle.std.specs.Prelude.{◌≡◌, Bool, List, [], ◌∷◌, Result, Ok, Err, if◌then◌else◌}

-- go on with what the first step gave, or keep its refusal
unfoldable pub and_then : {A B E : Type 0} → Result A E → (A → Result B E) → Result B E
and_then (Ok x) f = f x
and_then (Err e) f = Err e

infixl 10 ◌>>=◌
abbrev pub ◌>>=◌ : {A B E : Type 0} → Result A E → (A → Result B E) → Result B E
r >>= f = and_then r f

-- nothing where the test holds, else this refusal
abbrev pub check : {E : Type 0} → E → Bool → Result (Unit {0}) E
check e holds = if holds then Ok tt else Err e

-- every Ok of x has P
pub record Has {A E : Type 0} (x : Result A E) (P : A → Type 0) : Type 0 where
  pub each : (a : A) → x ≡ Ok a → P a

-- one step after another over a list: what each item gives, or the first refusal
unfoldable pub each : {A B E : Type 0} → (A → Result B E) → List A → Result (List B) E
each f [] = Ok []
each f (x ∷ xs) = do
  y ← f x
  ys ← each f xs
  Ok (y ∷ ys)
