-- Texts that were put together piece by piece.
use Rattle.std.proofs.Common.{◌≡◌, ℕ, List, ◌++◌, append_assoc, Result, Ok, Err, OnOk}

-- what follows from what holds where a call succeeded
pub on_ok : {T E : Type 0} (r : Result T E) {P Q : Type 0} → OnOk r P → (P → Q) → OnOk r Q
on_ok (Ok x) p f = f p
on_ok (Err e) p f = p

-- two pieces
pub two_joined : (old first second : List ℕ) (a b : List ℕ) → a ≡ old ++ first → b ≡ a ++ second → b ≡ old ++ (first ++ second)
two_joined old first second a b e f = rw (f, e) (append_assoc old first second)

-- three
pub three_joined : (old first second third : List ℕ) (a b c : List ℕ) → a ≡ old ++ first → b ≡ a ++ second → c ≡ b ++ third → c ≡ old ++ (first ++ (second ++ third))
three_joined old first second third a b c e f g = two_joined old first (second ++ third) a c e (two_joined a second third b c f g)

-- five
pub five_joined : (first second third fourth fifth : List ℕ) (a b c d e : List ℕ)
    → a ≡ first → b ≡ a ++ second → c ≡ b ++ third → d ≡ c ++ fourth → e ≡ d ++ fifth
    → e ≡ first ++ (second ++ (third ++ (fourth ++ fifth)))
five_joined first second third fourth fifth a b c d e p q r s t =
    three_joined first second third (fourth ++ fifth) b c e (rw p at q) r (two_joined c fourth fifth d e s t)
