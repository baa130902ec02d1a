-- An answer that follows another: where the first gives a value, the second gives one that is related to it.
use Rattle.std.proofs.Common.{◌≡◌, Bool, true, false, Result, Ok, Err, refl, subst, ◌∙◌}
use Rattle.gfx_base.specs.Results.{and_then, check}
use Rattle.gfx_base.proofs.ResultLemmas.{and_then_ok, and_then_at}

pub record Follows {A E : Type 0} (R : A → A → Type 0) (x y : Result A E) : Type 0 where
  pub each : (a : A) → x ≡ Ok a → (b : A) × (y ≡ Ok b) × R a b

pub gives : {A E : Type 0} (R : A → A → Type 0) (a b : A) → R a b → Follows {A = A} {E = E} R (Ok a) (Ok b)
gives R a b related = record { each = λ x e. let same : a ≡ x = cc in (b, refl, subst (λ z. R z b) same related) }

pub never : {A E : Type 0} (R : A → A → Type 0) (r : E) (y : Result A E) → Follows {A = A} {E = E} R (Err r) y
never R r y = record { each = λ x e. absurd cc }

-- the same first step
pub after : {A B E : Type 0} (R : B → B → Type 0) (x : Result A E) (f g : A → Result B E) → ((a : A) → Follows R (f a) (g a)) → Follows R (and_then x f) (and_then x g)
unfolding and_then
after R (Ok a) f g k = k a
after R (Err r) f g k = never R r (Err r)

-- a first step that follows another
pub both : {A B E : Type 0} (S : A → A → Type 0) (R : B → B → Type 0) (x y : Result A E) (f g : A → Result B E)
    → Follows S x y → ((a b : A) → S a b → Follows R (f a) (g b)) → Follows R (and_then x f) (and_then y g)
both S R x y f g first k = record {
  each = λ c e.
      let s = and_then_ok x f c e in
      let t = first.each s.0 s.1 in
      let u = (k s.0 t.0 t.2).each c s.2 in
      (u.0, and_then_at y t.0 g t.1 ∙ u.1, u.2);
}

-- a check that holds where another does
pub checks : {E : Type 0} (r : E) (a b : Bool) → (a ≡ true → b ≡ true) → Follows (λ x y. Unit {0}) (check r a) (check r b)
checks r false b more = never (λ x y. Unit {0}) r (check r b)
checks r true b more = rw (more refl) (gives (λ x y. Unit {0}) tt tt tt)
