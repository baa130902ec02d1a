-- Which word is a long name with no value.
use Rattle.std.proofs.Common.{◌≡◌, ◌∙◌, ◌==◌, ◌||◌, ℕ, Bool, true, false, ap, refl, sym, arith, length, take, List, [], ◌∷◌, Option, Some, None}
use Rattle.std.specs.Prelude.{if◌then◌else◌, option_and_then}
use Rattle.std.specs.List.{after_first, before_first, list_any, position_or_len}
use Rattle.std.proofs.lemmas.Bool.Decides.{nat_tests}
use Rattle.std.proofs.lemmas.List.{take_all}
use Rattle.clap.specs.Lexer.{has_byte, long_of, long_of_rest, name_and_value, strip_byte}
use Rattle.clap.specs.Words.{Text}

-- where no element passes the test, the first that does stands behind all
none_passes : (p : ℕ → Bool) (xs : List ℕ) → list_any p xs ≡ false → position_or_len p xs ≡ length xs
none_passes p [] none = refl
none_passes p (x ∷ xs) none = by_head (p x) refl none (none_passes p xs)
  where
    by_head : (b : Bool) → p x ≡ b → (b || list_any p xs) ≡ false → (list_any p xs ≡ false → position_or_len p xs ≡ length xs)
        → position_or_len p (x ∷ xs) ≡ length (x ∷ xs)
    by_head true is none rest = cc
    by_head false is none rest = rw is (let same = rest none in omega arith)

whole : (p : ℕ → Bool) (xs : List ℕ) → list_any p xs ≡ false → before_first p xs ≡ xs
whole p xs none = ap (λ n. take n xs) (none_passes p xs none) ∙ take_all (length xs) xs (omega arith)

-- a name with no value
abbrev without_value : Text → Text × Option Text
without_value name = (name, None)

-- the name before the first `=` (61), and what stands after it if there is one
abbrev parted : Text → Bool → Text × Option Text
parted text b = (before_first (λ x. x == 61) text, if b then Some (after_first (λ x. x == 61) text) else None)

no_value : (text name : Text) → name_and_value text ≡ without_value name → text ≡ name
no_value text name is = go (has_byte 61 text) refl is
  where
    go : (b : Bool) → has_byte 61 text ≡ b
        → parted text b ≡ without_value name → text ≡ name
    go true has is =
        let bad : Some (after_first (λ x. x == 61) text) ≡ None = ap (λ (p : Text × Option Text). p.1) is in
        cc
    go false lacks is = sym (whole (λ x. x == 61) text lacks) ∙ ap (λ (p : Text × Option Text). p.0) is

first_byte : (c : ℕ) (text rest : Text) → strip_byte c text ≡ Some rest → text ≡ c ∷ rest
first_byte c [] rest is = cc
first_byte c (x ∷ xs) rest is = go (x == c) refl is
  where
    go : (b : Bool) → (x == c) ≡ b → (if b then Some xs else None) ≡ Some rest → x ∷ xs ≡ c ∷ rest
    go true same is =
        let head : x ≡ c = grind (arith, nat_tests) in
        let tail : xs ≡ rest = cc in
        rw (head, tail) refl
    go false same is = cc

-- the word is two hyphens (45) and the name
pub long_word : (word name : Text) → long_of word ≡ Some (name, None) → word ≡ 45 ∷ 45 ∷ name
long_word word name is = first (strip_byte 45 word) refl is
  where
    second : (rest : Text) → strip_byte 45 word ≡ Some rest → (s : Option Text) → strip_byte 45 rest ≡ s
        → option_and_then long_of_rest s ≡ Some (name, None) → word ≡ 45 ∷ 45 ∷ name
    second rest one None two is = cc
    second rest one (Some []) two is = cc
    second rest one (Some (x ∷ xs)) two is =
        let pair : name_and_value (x ∷ xs) ≡ without_value name = cc in
        let tail : x ∷ xs ≡ name = no_value (x ∷ xs) name pair in
        first_byte 45 word rest one ∙ ap (λ (t : Text). 45 ∷ t) (first_byte 45 rest (x ∷ xs) two ∙ ap (λ (t : Text). 45 ∷ t) tail)

    first : (s : Option Text) → strip_byte 45 word ≡ s
        → option_and_then long_of_rest (option_and_then (strip_byte 45) s) ≡ Some (name, None) → word ≡ 45 ∷ 45 ∷ name
    first None one is = cc
    first (Some rest) one is = second rest one (strip_byte 45 rest) refl is
