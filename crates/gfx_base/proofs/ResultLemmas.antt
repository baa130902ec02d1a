-- Steps that may be refused: what an Ok at the end says of each step.
use Rattle.std.proofs.Common.{◌≡◌, Bool, true, false, List, [], ◌∷◌, length, Result, Ok, Err, refl, sym, ap, ◌∙◌, subst, suc}
use Rattle.gfx_base.specs.Results.{and_then, check, Has, each}

-- a step that gave a value goes on with it
pub and_then-Ok : {A B E : Type 0} (a : A) (f : A → Result B E) → and_then (Ok a) f ≡ f a
unfolding and_then
and_then-Ok a f = refl

-- a refusal ends the steps
pub and_then-Err : {A B E : Type 0} (e : E) (f : A → Result B E) → and_then (Err e) f ≡ Err e
unfolding and_then
and_then-Err e f = refl

pub and_then_at : {A B E : Type 0} (x : Result A E) (a : A) (f : A → Result B E) → x ≡ Ok a → and_then x f ≡ f a
and_then_at x a f e = rw e (and_then-Ok a f)

pub and_then_refused : {A B E : Type 0} (x : Result A E) (r : E) (f : A → Result B E) → x ≡ Err r → and_then x f ≡ Err r
and_then_refused x r f e = rw e (and_then-Err r f)

-- what the steps gave came through the first
pub and_then_ok : {A B E : Type 0} (x : Result A E) (f : A → Result B E) (y : B) → and_then x f ≡ Ok y → (a : A) × (x ≡ Ok a) × (f a ≡ Ok y)
unfolding and_then
and_then_ok (Ok a) f y e = (a, refl, e)
and_then_ok (Err r) f y e = absurd cc

-- what follows two steps may be put into the second
pub and_then_assoc : {A B C E : Type 0} (x : Result A E) (f : A → Result B E) (g : B → Result C E) → and_then (and_then x f) g ≡ and_then x (λ a. and_then (f a) g)
unfolding and_then
and_then_assoc (Ok a) f g = refl
and_then_assoc (Err r) f g = refl

-- if the second step gives P whatever the first gave, so do both
pub chain : {A B E : Type 0} (x : Result A E) (f : A → Result B E) (P : B → Type 0) → ((a : A) → x ≡ Ok a → Has (f a) P) → Has (and_then x f) P
chain x f P k = record { each = λ y e. let s = and_then_ok x f y e in (k s.0 s.1).each y s.2 }

pub gives : {A E : Type 0} (a : A) (P : A → Type 0) → P a → Has {A = A} {E = E} (Ok a) P
gives a P p = record { each = λ y e. let same : a ≡ y = cc in subst P same p }

pub never : {A E : Type 0} (r : E) (P : A → Type 0) → Has {A = A} {E = E} (Err r) P
never r P = record { each = λ y e. absurd cc }

-- a check that passed
pub check_ok : {E : Type 0} (r : E) (holds : Bool) → check r holds ≡ Ok tt → holds ≡ true
check_ok r true e = refl
check_ok r false e = absurd cc

-- as many items come out as went in
pub length-each : {A B E : Type 0} (f : A → Result B E) (xs : List A) (ys : List B) → each f xs ≡ Ok ys → length ys ≡ length xs
unfolding each
length-each f [] ys e = let same : [] ≡ ys = cc in ap length (sym same)
length-each f (x ∷ xs) ys e =
    let first = and_then_ok (f x) _ ys e in
    let others = and_then_ok (each f xs) _ ys first.2 in
    let same : first.0 ∷ others.0 ≡ ys = let h = others.2 in cc in
    ap length (sym same) ∙ ap (λ n. suc n) (length-each f xs others.0 others.1)
