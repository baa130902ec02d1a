-- Keys of which none is there twice.
use Rattle.std.proofs.Common.{◌≡◌, ◌∙◌, sym, refl, Bool, true, false, ◌&&◌, ◌||◌, not, nat_eq, ℕ, List, [], ◌∷◌, ◌++◌, arith}
use Rattle.std.proofs.lemmas.Bool.Decides.{nat_tests}
use Rattle.std.proofs.lemmas.List.Folds.{list_any-append}
use Rattle.gfx_import.specs.Entries.{has_key, are_distinct}

pub both_true : (a b : Bool) → (a && b) ≡ true → (a ≡ true) × (b ≡ true)
both_true true b e = (refl, e)
both_true false b e = absurd cc

pub not_true : (a : Bool) → not a ≡ true → a ≡ false
not_true false e = refl
not_true true e = absurd cc

either_false : (a b : Bool) → a ≡ false → b ≡ false → (a || b) ≡ false
either_false false b e f = f
either_false true b e f = absurd cc

both_are : (a b : Bool) → a ≡ true → b ≡ true → (a && b) ≡ true
both_are true b e f = f
both_are false b e f = absurd cc

not_false : (a : Bool) → a ≡ false → not a ≡ true
not_false false e = refl
not_false true e = absurd cc

either_is : (a b c : Bool) → (a || (b || c)) ≡ false → (a ≡ false) × (b ≡ false)
either_is false false c e = (refl, refl)
either_is false true c e = absurd cc
either_is true b c e = absurd cc

same_keys : (key other : ℕ) → nat_eq key other ≡ nat_eq other key
same_keys key other = grind (arith, nat_tests)

itself : (key : ℕ) → nat_eq key key ≡ true
itself key = grind (arith, nat_tests)

-- a key behind others is another one
pub key-apart : (done rest : List ℕ) (key : ℕ) → are_distinct (done ++ key ∷ rest) ≡ true → has_key done key ≡ false
key-apart [] rest key e = refl
key-apart (one ∷ done) rest key e =
    let parts = both_true (not (has_key (done ++ key ∷ rest) one)) (are_distinct (done ++ key ∷ rest)) e in
    let none : has_key (done ++ key ∷ rest) one ≡ false = not_true _ parts.0 in
    let apart = either_is (has_key done one) (nat_eq one key) (has_key rest one) (sym (list_any-append (nat_eq one) done (key ∷ rest)) ∙ none) in
    either_false (nat_eq key one) (has_key done key) (same_keys key one ∙ apart.1) (key-apart done rest key parts.1)

-- one that is there already makes them not distinct
pub key-twice : (done rest : List ℕ) (key : ℕ) → has_key done key ≡ true → are_distinct (done ++ key ∷ rest) ≡ false
key-twice done rest key there = by (are_distinct (done ++ key ∷ rest)) refl
  where
    by : (b : Bool) → are_distinct (done ++ key ∷ rest) ≡ b → are_distinct (done ++ key ∷ rest) ≡ false
    by false e = e
    by true e = let apart = key-apart done rest key e in absurd cc

-- a new one at the end leaves them distinct
pub key-new : (done : List ℕ) (key : ℕ) → are_distinct done ≡ true → has_key done key ≡ false → are_distinct (done ++ key ∷ []) ≡ true
key-new [] key e none = refl
key-new (one ∷ done) key e none =
    let parts = both_true (not (has_key done one)) (are_distinct done) e in
    let apart = either_is (nat_eq key one) (has_key done key) false (regroup (nat_eq key one) (has_key done key) none) in
    let fresh : has_key (done ++ key ∷ []) one ≡ false =
    list_any-append (nat_eq one) done (key ∷ [])
    ∙ either_false (has_key done one) (nat_eq one key || false) (not_true _ parts.0) (either_false (nat_eq one key) false (same_keys one key ∙ apart.0) refl) in
    both_are (not (has_key (done ++ key ∷ []) one)) (are_distinct (done ++ key ∷ [])) (not_false _ fresh) (key-new done key parts.1 apart.1)
  where
    regroup : (a b : Bool) → (a || b) ≡ false → (a || (b || false)) ≡ false
    regroup false false e = refl
    regroup false true e = absurd cc
    regroup true b e = absurd cc
