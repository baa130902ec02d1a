-- Messages, a group of tiles each.
use Rattle.std.proofs.Common.{◌≡◌, ◌∙◌, ap, sym, refl, Bool, true, false, ℕ, zero, suc, ◌-◌, ◌<◌, ◌≤◌, min, List, [], ◌∷◌, ◌++◌, length, length-drop, take, drop, append_assoc, inl, inr, ◌⊎◌, arith}
use Rattle.std.proofs.lemmas.Bool.{cases_lt, eqb-true}
use Rattle.std.proofs.lemmas.List.{take_all, drop_all}
use Rattle.std.specs.Prelude.{◌==◌, fold}
use Rattle.gfx_prog_live.specs.Live.{following, groups_of, in_groups, number_after, numbered}

-- groups are the same by any bound that is large enough
same_groups : {X : Type 0} (most other : ℕ) (xs : List X) → length xs ≤ most → length xs ≤ other → groups_of most xs ≡ groups_of other xs
unfolding groups_of
same_groups zero zero [] h k = refl
same_groups zero (suc other) [] h k = refl
same_groups (suc most) zero [] h k = refl
same_groups (suc most) (suc other) [] h k = refl
same_groups zero other (x ∷ xs) h k = absurd (omega arith)
same_groups (suc most) zero (x ∷ xs) h k = absurd (omega arith)
same_groups {X} (suc most) (suc other) (x ∷ xs) h k =
    let shorter : length (drop 256 (x ∷ xs)) ≡ length (x ∷ xs) - 256 = length-drop 256 (x ∷ xs) in
    ap (λ groups. take 256 (x ∷ xs) ∷ groups) (same_groups most other (drop 256 (x ∷ xs)) (omega arith) (omega arith))

-- the first group and those of the rest
pub first_group : {X : Type 0} (xs : List X) → 0 < length xs → in_groups xs ≡ take 256 xs ∷ in_groups (drop 256 xs)
unfolding groups_of
first_group [] some = absurd (omega arith)
first_group (x ∷ xs) some =
    let shorter : length (drop 256 (x ∷ xs)) ≡ length (x ∷ xs) - 256 = length-drop 256 (x ∷ xs) in
    ap (λ groups. take 256 (x ∷ xs) ∷ groups) (same_groups (length xs) (length (drop 256 (x ∷ xs))) (drop 256 (x ∷ xs)) (omega arith) (omega arith))

-- these were written of the messages that are due, those of the rest are to come
pub record Writing {X : Type 0} (write : List X → ℕ → List ℕ) (sends : List X) (first : ℕ) (rest : List X) (next : ℕ) (all : List (List ℕ)) : Type 0 where
  pub due : numbered write (in_groups sends) first ≡ all ++ numbered write (in_groups rest) next
  pub number : number_after sends first ≡ number_after rest next

-- none yet
pub none_written : {X : Type 0} (write : List X → ℕ → List ℕ) (sends : List X) (first : ℕ) (all : List (List ℕ)) → all ≡ [] → Writing write sends first sends first all
none_written write sends first all none = record { due = ap (λ a. a ++ numbered write (in_groups sends) first) (sym none); number = refl }

-- one more
pub one_written : {X : Type 0} (write : List X → ℕ → List ℕ) (sends : List X) (first : ℕ) (rest : List X) (next : ℕ) (all more : List (List ℕ)) (group others : List X) (message : List ℕ)
    → 0 < length rest → group ≡ take 256 rest → others ≡ drop 256 rest → message ≡ write group next → more ≡ all ++ message ∷ []
    → Writing write sends first rest next all → Writing write sends first others (following next) more
unfolding numbered
one_written {X} write sends first rest next all more group others message some taken left is put before = record {
  due =
      before.due
      ∙ ap (λ groups. all ++ numbered write groups next) (first_group rest some)
      ∙ (λ i. all ++ (write (sym taken i) next ∷ numbered write (in_groups (sym left i)) (following next)))
      ∙ ap (λ m. all ++ (m ∷ numbered write (in_groups others) (following next))) (sym is)
      ∙ sym (append_assoc all (message ∷ []) (numbered write (in_groups others) (following next)))
      ∙ ap (λ a. a ++ numbered write (in_groups others) (following next)) (sym put);
  number =
      before.number
      ∙ ap (λ groups. fold (λ number (group : List X). following number) next groups) (first_group rest some)
      ∙ ap (λ xs. number_after xs (following next)) (sym left);
}

-- all
pub all_written : {X : Type 0} (write : List X → ℕ → List ℕ) (sends : List X) (first : ℕ) (rest : List X) (next : ℕ) (all : List (List ℕ)) → length rest ≡ 0
    → Writing write sends first rest next all → (all ≡ numbered write (in_groups sends) first) × (next ≡ number_after sends first)
unfolding numbered groups_of
all_written write sends first [] next all none before = (sym (before.due ∙ end all), sym before.number)
  where
    end : (xs : List (List ℕ)) → xs ++ [] ≡ xs
    end [] = refl
    end (x ∷ xs) = ap (λ ys. x ∷ ys) (end xs)
all_written write sends first (send ∷ rest) next all none before = absurd (omega arith)

-- as many as a message takes, or all there are
pub take_most : {X : Type 0} (n : ℕ) (sends : List X) → n ≡ min (length sends) 256 → take n sends ≡ take 256 sends
take_most n sends is = by (cases_lt 256 (length sends))
  where
    by : ((256 < length sends) ⊎ (length sends ≤ 256)) → take n sends ≡ take 256 sends
    by (inr few) = take_all n sends (omega arith) ∙ sym (take_all 256 sends few)
    by (inl more) = ap (λ m. take m sends) {x = n} {y = 256} (omega arith)

pub drop_most : {X : Type 0} (n : ℕ) (sends : List X) → n ≡ min (length sends) 256 → drop n sends ≡ drop 256 sends
drop_most n sends is = by (cases_lt 256 (length sends))
  where
    by : ((256 < length sends) ⊎ (length sends ≤ 256)) → drop n sends ≡ drop 256 sends
    by (inr few) = drop_all n sends (omega arith) ∙ sym (drop_all 256 sends few)
    by (inl more) = ap (λ m. drop m sends) {x = n} {y = 256} (omega arith)

-- the rest is less
pub fewer_left : {X : Type 0} (rest others : List X) → 0 < length rest → others ≡ drop 256 rest → length others < length rest
fewer_left rest others some left = omega (arith, ap length left ∙ length-drop 256 rest)

-- whether there is a rest
pub some_left : {X : Type 0} (rest : List X) (test : Bool) → test ≡ (length rest == 0) → test ≡ false → 0 < length rest
some_left [] test is fails = cc
some_left (send ∷ rest) test is fails = omega arith

pub none_left : {X : Type 0} (rest : List X) (test : Bool) → test ≡ (length rest == 0) → test ≡ true → length rest ≡ 0
none_left rest test is passes = eqb-true (length rest) 0 (sym is ∙ passes)
