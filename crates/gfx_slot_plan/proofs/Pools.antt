-- The free slots after one is taken or given back.
use Rattle.std.proofs.Common.{◌≡◌, ◌∙◌, ◌⊎◌, ◌≢◌, ◌<◌, ◌≤◌, ◌+◌, ◌&&◌, ◌||◌, not, inl, inr, ap, sym, refl, nat_eq, nat_le, nat_lt, Bool, true, false, ℕ, List, [], ◌∷◌, suc, map, length, Some, Result, Ok, Err, arith}
use Rattle.std.specs.Prelude.{slice_get, IsOk, OnOk}
use Rattle.std.specs.List.{list_any, AllByRecursion, IsDistinct}
use Rattle.std.specs.List.Sorted.{IsPermutation}
use Rattle.std.specs.Ordering.{nat_cmp, is_lt}
use Rattle.std.specs.declared.cmp.Reverse.{Reverse}
use Rattle.std.proofs.lemmas.Bool.{cases_eq, cases_lt}
use Rattle.std.proofs.lemmas.Bool.Decides.{nat_tests}
use Rattle.std.proofs.lemmas.List.Sorted.{list_any-IsPermutation, IsPermutation-map}
use Rattle.std.proofs.lemmas.Map.Keys.{IsDistinct-IsPermutation, IsDistinct-head, IsDistinct-tail, IsDistinct-cons}
use Rattle.std.proofs.lemmas.Map.Steps.{length-le_from_distinct_below}
use Rattle.gfx_slot_plan.specs.Pool.{Pool, has_free, pool_slots, is_none}
use Rattle.gfx_slot_plan.proofs.Ranges.{none_from, first_from, some_from}

-- what holds after a call that cannot fail
pub OnOk-ok : {A E : Type 0} (r : Result A E) (P : Type 0) → IsOk r → OnOk r P → P
OnOk-ok (Ok x) P ok on = on
OnOk-ok (Err e) P ok on = let no : false ≡ true = ok in cc

nat_eq_turned : (x y : ℕ) → nat_eq x y ≡ nat_eq y x
nat_eq_turned x y = grind (arith, nat_tests)

fresh : (p : Pool) → p.returned ≡ [] → (q : ℕ) → has_free p q ≡ nat_le p.next q
fresh p none q = ap (λ l. nat_le p.next q || list_any (nat_eq q) l) none ∙ or_false (nat_le p.next q)
  where
    or_false : (b : Bool) → (b || false) ≡ b
    or_false true = refl
    or_false false = refl

-- with nothing given back the slots from next on are free
pub pool-fresh : (p : Pool) → p.returned ≡ [] → 1 ≤ p.next → is_none (pool_slots p) ≡ nat_lt p.last p.next
pool-fresh p none from = by (cases_lt p.last p.next)
  where
    low : p.last < p.next → (q : ℕ) → 1 ≤ q → q < 1 + p.last → nat_le p.next q ≡ false
    low past q on below = let less : q < p.next = omega arith in grind (arith, nat_tests)

    itself : nat_le p.next p.next ≡ true
    itself = grind (arith, nat_tests)

    by : ((p.last < p.next) ⊎ (p.next ≤ p.last)) → is_none (pool_slots p) ≡ nat_lt p.last p.next
    by (inl past) =
        let test : nat_lt p.last p.next ≡ true = grind (arith, nat_tests) in
        ap is_none (none_from (has_free p) 1 p.last (λ q on below. fresh p none q ∙ low past q on below)) ∙ sym test
    by (inr within) =
        let test : nat_lt p.last p.next ≡ false = grind (arith, nat_tests) in
        some_from (has_free p) 1 p.last p.next from (omega arith) (fresh p none p.next ∙ itself) ∙ sym test

-- and next is the least of them
pub pool-fresh_first : (p : Pool) → p.returned ≡ [] → 1 ≤ p.next → is_none (pool_slots p) ≡ false → (p.next ≤ p.last) × (slice_get (pool_slots p) 0 ≡ Some p.next)
pool-fresh_first p none from some = by (cases_lt p.last p.next)
  where
    low : (q : ℕ) → q < p.next → nat_le p.next q ≡ false
    low q less = grind (arith, nat_tests)

    itself : nat_le p.next p.next ≡ true
    itself = grind (arith, nat_tests)

    by : ((p.last < p.next) ⊎ (p.next ≤ p.last)) → (p.next ≤ p.last) × (slice_get (pool_slots p) 0 ≡ Some p.next)
    by (inl past) =
        let test : nat_lt p.last p.next ≡ true = grind (arith, nat_tests) in
        let no : true ≡ false = sym test ∙ sym (pool-fresh p none from) ∙ some in cc
    by (inr within) =
        (within, first_from (has_free p) 1 p.last p.next from (omega arith) (fresh p none p.next ∙ itself) (λ q on below. fresh p none q ∙ low q below))

-- a slot that was given back is free
pub pool-some : (p : Pool) (x : ℕ) → list_any (nat_eq x) p.returned ≡ true → 1 ≤ x → x ≤ p.last → is_none (pool_slots p) ≡ false
pool-some p x there from within =
    some_from (has_free p) 1 p.last x from (omega arith)
    (ap (λ b. nat_le p.next x || b) there ∙ or_true (nat_le p.next x))
  where
    or_true : (b : Bool) → (b || true) ≡ true
    or_true true = refl
    or_true false = refl

-- numbers by which the least comes first
abbrev pub Numbers : Type 0
Numbers = List (Reverse ℕ)

abbrev pub numbers : Numbers → List ℕ
numbers items = map (λ item. item.0) items

any_numbers : (items : Numbers) (n : ℕ) → list_any (nat_eq n) (numbers items) ≡ list_any (λ item. nat_eq n item.0) items
any_numbers [] n = refl
any_numbers (item ∷ items) n = ap (λ b. nat_eq n item.0 || b) (any_numbers items n)

-- the same numbers in another order are found alike
pub any-reordered : (xs ys : Numbers) (n : ℕ) → IsPermutation xs ys → list_any (nat_eq n) (numbers ys) ≡ list_any (nat_eq n) (numbers xs)
any-reordered xs ys n p = any_numbers ys n ∙ sym (list_any-IsPermutation (λ item. nat_eq n item.0) xs ys p) ∙ sym (any_numbers xs n)

pub distinct-reordered : (xs ys : Numbers) → IsPermutation xs ys → IsDistinct nat_eq (numbers xs) → IsDistinct nat_eq (numbers ys)
distinct-reordered xs ys p apart = IsDistinct-IsPermutation nat_eq nat_eq_turned (numbers xs) (numbers ys) (IsPermutation-map (λ item. item.0) xs ys p) apart

all_apart : (n : ℕ) (xs : List ℕ) → list_any (nat_eq n) xs ≡ false → AllByRecursion (λ y. nat_eq n y ≡ false) xs
all_apart n [] none = tt
all_apart n (x ∷ xs) none = by (nat_eq n x) refl (all_apart n xs)
  where
    by : (b : Bool) → nat_eq n x ≡ b → (list_any (nat_eq n) xs ≡ false → AllByRecursion (λ y. nat_eq n y ≡ false) xs) → AllByRecursion (λ y. nat_eq n y ≡ false) (x ∷ xs)
    by true same rest = let no : true ≡ false = sym (ap (λ b. b || list_any (nat_eq n) xs) same) ∙ none in cc
    by false differ rest = (differ, rest (sym (ap (λ b. b || list_any (nat_eq n) xs) differ) ∙ none))

none_apart : (n : ℕ) (xs : List ℕ) → AllByRecursion (λ y. nat_eq n y ≡ false) xs → list_any (nat_eq n) xs ≡ false
none_apart n [] all = refl
none_apart n (x ∷ xs) all = ap (λ b. b || list_any (nat_eq n) xs) all.0 ∙ none_apart n xs all.1

pub distinct-more : (n : ℕ) (xs : List ℕ) → list_any (nat_eq n) xs ≡ false → IsDistinct nat_eq xs → IsDistinct nat_eq (n ∷ xs)
distinct-more n xs none apart = IsDistinct-cons nat_eq n xs (all_apart n xs none) apart

pub distinct-first : (n : ℕ) (xs : List ℕ) → IsDistinct nat_eq (n ∷ xs) → list_any (nat_eq n) xs ≡ false
distinct-first n xs apart = none_apart n xs (IsDistinct-head nat_eq n xs apart)

-- distinct numbers from one on and below a limit are fewer than that
pub fewer : (limit : ℕ) (xs : List ℕ) → IsDistinct nat_eq xs → ((q : ℕ) → list_any (nat_eq q) xs ≡ true → (1 ≤ q) × (q < limit)) → 1 ≤ limit → length xs + 1 ≤ limit
fewer limit xs apart within from =
    let zero_apart : list_any (nat_eq 0) xs ≡ false = is_false (list_any (nat_eq 0) xs) refl in
    let few : length (0 ∷ xs) ≤ limit = length-le_from_distinct_below (0 ∷ xs) limit (distinct-more 0 xs zero_apart apart) (λ q there. by q (cases_eq q 0) there) in
    omega arith
  where
    is_false : (b : Bool) → list_any (nat_eq 0) xs ≡ b → list_any (nat_eq 0) xs ≡ false
    is_false true there = let low = (within 0 there).0 in absurd (omega arith)
    is_false false none = none

    by : (q : ℕ) → ((q ≡ 0) ⊎ (q ≢ 0)) → list_any (nat_eq q) (0 ∷ xs) ≡ true → q < limit
    by q (inl same) there = omega arith
    by q (inr apart) there =
        let differ : nat_eq q 0 ≡ false = grind (arith, nat_tests) in
        (within q (sym (ap (λ b. b || list_any (nat_eq q) xs) differ) ∙ there)).1

-- none of the numbers is below the least
pub none_below : (x : ℕ) (items : Numbers) (n : ℕ) → AllByRecursion (λ (item : Reverse ℕ). is_lt (nat_cmp item.0 x) ≡ false) items → n < x → list_any (nat_eq n) (numbers items) ≡ false
none_below x [] n all less = refl
none_below x (item ∷ items) n all less =
    let least : is_lt (nat_cmp item.0 x) ≡ false = all.0 in
    let differ : nat_eq n item.0 ≡ false = grind (arith, nat_tests) in
    ap (λ b. b || list_any (nat_eq n) (numbers items)) differ ∙ none_below x items n all.1 less

-- the least that was given back is the least free slot
pub least_first : (p : Pool) (x : ℕ) → list_any (nat_eq x) p.returned ≡ true → 1 ≤ x → x < p.next → p.next ≤ p.last + 1
    → ((q : ℕ) → q < x → list_any (nat_eq q) p.returned ≡ false) → slice_get (pool_slots p) 0 ≡ Some x
least_first p x there from below within others =
    first_from (has_free p) 1 p.last x from (omega arith)
    (ap (λ b. nat_le p.next x || b) there ∙ or_true (nat_le p.next x))
    (λ q on less. let test : nat_le p.next q ≡ false = grind (arith, nat_tests) in λ i. test i || others q less i)
  where
    or_true : (b : Bool) → (b || true) ≡ true
    or_true true = refl
    or_true false = refl

-- and is free no more once it is taken
pub free_taken : (old new : Pool) (x : ℕ) → new.next ≡ old.next → x < old.next
    → ((q : ℕ) → list_any (nat_eq q) old.returned ≡ (nat_eq q x || list_any (nat_eq q) new.returned)) → list_any (nat_eq x) new.returned ≡ false
    → (q : ℕ) → has_free new q ≡ (has_free old q && not (nat_eq q x))
free_taken old new x same below found gone q = by (cases_eq q x)
  where
    and_true : (b : Bool) → (b && true) ≡ b
    and_true true = refl
    and_true false = refl

    by : ((q ≡ x) ⊎ (q ≢ x)) → has_free new q ≡ (has_free old q && not (nat_eq q x))
    by (inl is) =
        let here : nat_eq q x ≡ true = grind (arith, nat_tests) in
        let over : nat_le new.next q ≡ false = grind (arith, nat_tests) in
        (λ i. over i || list_any (nat_eq (is i)) new.returned) ∙ gone
        ∙ sym (ap (λ b. has_free old q && not b) here ∙ and_false (has_free old q))
      where
        and_false : (b : Bool) → (b && false) ≡ false
        and_false true = refl
        and_false false = refl
    by (inr apart) =
        let differ : nat_eq q x ≡ false = grind (arith, nat_tests) in
        ap (λ n. nat_le n q || list_any (nat_eq q) new.returned) same
        ∙ ap (λ b. nat_le old.next q || b) (sym (found q ∙ ap (λ b. b || list_any (nat_eq q) new.returned) differ))
        ∙ sym (ap (λ b. has_free old q && not b) differ ∙ and_true (has_free old q))

-- a slot that is given back is free, and no other is touched
pub free_given : (old new : Pool) (x : ℕ) → new.next ≡ old.next
    → ((q : ℕ) → list_any (nat_eq q) new.returned ≡ (nat_eq q x || list_any (nat_eq q) old.returned))
    → (q : ℕ) → has_free new q ≡ (nat_eq q x || has_free old q)
free_given old new x same found q =
    (λ i. nat_le (same i) q || found q i) ∙ swapped (nat_le old.next q) (nat_eq q x) (list_any (nat_eq q) old.returned)
  where
    swapped : (a b c : Bool) → (a || (b || c)) ≡ (b || (a || c))
    swapped true true c = refl
    swapped true false c = refl
    swapped false b c = refl

-- a slot that isn't free is below next, and was not given back
pub taken_parts : (p : Pool) (slot : ℕ) → has_free p slot ≡ false → (slot < p.next) × (list_any (nat_eq slot) p.returned ≡ false)
taken_parts p slot taken = by (nat_le p.next slot) refl
  where
    by : (b : Bool) → nat_le p.next slot ≡ b → (slot < p.next) × (list_any (nat_eq slot) p.returned ≡ false)
    by true over = let no : true ≡ false = sym (ap (λ b. b || list_any (nat_eq slot) p.returned) over) ∙ taken in cc
    by false under = (grind (arith, nat_tests), sym (ap (λ b. b || list_any (nat_eq slot) p.returned) under) ∙ taken)

-- one more that is in range
pub below_more : (next x : ℕ) (xs : List ℕ) → 1 ≤ x → x < next → ((q : ℕ) → list_any (nat_eq q) xs ≡ true → (1 ≤ q) × (q < next))
    → (q : ℕ) → list_any (nat_eq q) (x ∷ xs) ≡ true → (1 ≤ q) × (q < next)
below_more next x xs from low all q there = by (cases_eq q x)
  where
    by : ((q ≡ x) ⊎ (q ≢ x)) → (1 ≤ q) × (q < next)
    by (inl same) = (omega arith, omega arith)
    by (inr apart) =
        let differ : nat_eq q x ≡ false = grind (arith, nat_tests) in
        all q (sym (ap (λ b. b || list_any (nat_eq q) xs) differ) ∙ there)

-- there is room for each slot that is given back
pub room_left : (p : Pool) (slot cap : ℕ) → IsDistinct nat_eq p.returned → ((q : ℕ) → list_any (nat_eq q) p.returned ≡ true → (1 ≤ q) × (q < p.next))
    → p.next ≤ p.last + 1 → p.last ≤ cap → 1 ≤ slot → has_free p slot ≡ false → length p.returned < cap
room_left p slot cap apart below within room from taken =
    let parts = taken_parts p slot taken in
    let low : slot < p.next = parts.0 in
    let few : length (slot ∷ p.returned) + 1 ≤ p.next =
    fewer p.next (slot ∷ p.returned) (distinct-more slot p.returned parts.1 apart) (below_more p.next slot p.returned from low below) (omega arith) in
    omega arith

pub length-numbers : (items : Numbers) → length (numbers items) ≡ length items
length-numbers [] = refl
length-numbers (item ∷ items) = ap suc (length-numbers items)

pub distinct-rest : (n : ℕ) (xs : List ℕ) → IsDistinct nat_eq (n ∷ xs) → IsDistinct nat_eq xs
distinct-rest n xs apart = IsDistinct-tail nat_eq n xs apart

pub eq_itself : (n : ℕ) → nat_eq n n ≡ true
eq_itself n = grind (arith, nat_tests)

pub below_rest : (q x : ℕ) (xs : List ℕ) → list_any (nat_eq q) xs ≡ true → list_any (nat_eq q) (x ∷ xs) ≡ true
below_rest q x xs there = ap (λ b. nat_eq q x || b) there ∙ or_true (nat_eq q x)
  where
    or_true : (b : Bool) → (b || true) ≡ true
    or_true true = refl
    or_true false = refl

none_there : (xs : List ℕ) → length xs ≡ 0 → xs ≡ []
none_there [] none = refl
none_there (x ∷ xs) none = absurd (omega arith)

-- no items are no numbers
pub no_numbers : (items : Numbers) (n : ℕ) → n ≡ length items → n ≡ 0 → numbers items ≡ []
no_numbers items n sized none = none_there (numbers items) (length-numbers items ∙ sym sized ∙ none)

-- an item that was given back makes some slot free
pub pool-returned : (p : Pool) → 0 < length p.returned → ((q : ℕ) → list_any (nat_eq q) p.returned ≡ true → (1 ≤ q) × (q < p.next)) → p.next ≤ p.last + 1 → is_none (pool_slots p) ≡ false
pool-returned p some below within = by p.returned refl
  where
    by : (xs : List ℕ) → p.returned ≡ xs → is_none (pool_slots p) ≡ false
    by [] is = let none : length p.returned ≡ 0 = ap length is in absurd (omega arith)
    by (x ∷ xs) is =
        let there : list_any (nat_eq x) p.returned ≡ true = ap (list_any (nat_eq x)) is ∙ ap (λ b. b || list_any (nat_eq x) xs) (eq_itself x) in
        let bounds = below x there in
        let low : x < p.next = bounds.1 in
        pool-some p x there bounds.0 (omega arith)

-- what was taken was there
pub popped_there : (items rest : Numbers) (item : Reverse ℕ) → IsPermutation items (item ∷ rest) → list_any (nat_eq item.0) (numbers items) ≡ true
popped_there items rest item moved =
    sym (any-reordered items (item ∷ rest) item.0 moved) ∙ ap (λ b. b || list_any (nat_eq item.0) (numbers rest)) (eq_itself item.0)

pub distinct-none : IsDistinct nat_eq []
unfolding IsDistinct
distinct-none = tt
