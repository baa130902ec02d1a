-- Names in a set, and the list of their texts.
use Rattle.std.proofs.Common.{◌≡◌, ◌∙◌, ℕ, ◌+◌, ◌≤◌, Bool, true, false, not, cond, nat_lt, ◌||◌, List, [], ◌∷◌, ◌++◌, map, length, Some, None, if◌then◌else◌, refl, ap, arith}
use Rattle.std.proofs.lemmas.Bool.Decides.{nat_tests}
use Rattle.std.proofs.lemmas.Cmp.{nat_list_eq_equiv}
use Rattle.std.proofs.lemmas.List.{map-append}
use Rattle.std.proofs.lemmas.List.Sums.{prefix_len-le-length}
use Rattle.std.specs.List.{list_any, position, position_or_len}
use Rattle.std.specs.Str.{bytes_eq}
use Rattle.gfx_script_text.specs.Pictures.{is_named, number_of}

found_at : (b : Bool) (n at : ℕ) → Some at ≡ cond b (Some n) None → at ≡ n
found_at true n at is = cc
found_at false n at is = absurd cc

none_at : (b : Bool) (n : ℕ) → None ≡ cond b (Some n) None → b ≡ false
none_at true n is = absurd cc
none_at false n is = refl

module _ {X : Type 0} (text : X → List ℕ) (name : List ℕ) where
  abbrev is_it : X → Bool
  is_it x = bytes_eq name (text x)

  same_test : (x : X) → is_it x ≡ bytes_eq (text x) name
  same_test x = nat_list_eq_equiv.symm name (text x)

  -- whether the name is there
  pub named_seen : (xs : List X) → list_any is_it xs ≡ is_named (map text xs) name
  named_seen [] = refl
  named_seen (x ∷ xs) = λ i. same_test x i || named_seen xs i

  place_seen : (xs : List X) → position_or_len is_it xs ≡ number_of (map text xs) name
  place_seen [] = refl
  place_seen (x ∷ xs) = λ i. cond (not (same_test x i)) (1 + place_seen xs i) 0

  -- where the name is
  pub place_found : (xs : List X) (at : ℕ) → Some at ≡ position is_it xs → at ≡ number_of (map text xs) name
  place_found xs at is = found_at (nat_lt (position_or_len is_it xs) (length xs)) (position_or_len is_it xs) at is ∙ place_seen xs

  pub place_none : (xs : List X) → None ≡ position is_it xs → length xs ≡ number_of (map text xs) name
  place_none xs is =
      let past : nat_lt (position_or_len is_it xs) (length xs) ≡ false = none_at _ (position_or_len is_it xs) is in
      let most : position_or_len is_it xs ≤ length xs = prefix_len-le-length (λ x. not (is_it x)) xs in
      let all : length xs ≡ position_or_len is_it xs = grind (arith, nat_tests, past, most) in
      all ∙ place_seen xs

-- a name that is new goes last
pub name_added : {X : Type 0} (text : X → List ℕ) (x : X) (xs new : List X) (names : List (List ℕ))
    → new ≡ (if list_any (λ y. bytes_eq (text x) (text y)) xs then xs else xs ++ x ∷ []) → map text xs ≡ names → is_named names (text x) ≡ false
    → map text new ≡ names ++ text x ∷ []
name_added text x xs new names is same fresh =
    let other : list_any (λ y. bytes_eq (text x) (text y)) xs ≡ false = named_seen text (text x) xs ∙ ap (λ ns. is_named ns (text x)) same ∙ fresh in
    ap (map text) (is ∙ ap (λ b. if b then xs else xs ++ x ∷ []) other)
    ∙ map-append text xs (x ∷ []) ∙ ap (λ ns. ns ++ text x ∷ []) same
