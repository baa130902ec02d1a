-- The places, the free slots and the bytes after a change.
use Rattle.std.proofs.Common.{◌≡◌, ◌∙◌, ◌⊎◌, ◌≢◌, ◌≤◌, ◌+◌, ◌&&◌, ◌||◌, not, inl, inr, ap, sym, refl, subst, nat_eq, nat_le, Bool, true, false, ℕ, [], ◌∷◌, ◌++◌, arith}
use Rattle.std.proofs.lemmas.Bool.{cases_eq}
use Rattle.std.proofs.lemmas.Bool.Decides.{nat_tests}
use Rattle.std.proofs.lemmas.List.Sums.{sum_by-cons}
use Rattle.gfx_slot_plan.specs.declared.allocation.Allocation.{Allocation}
use Rattle.gfx_slot_plan.specs.Pool.{Pool, pool, has_free, pool_slots}
use Rattle.gfx_slot_plan.specs.Plan.{Allocations, AreSlots, place, total, is_used, free_slots}
use Rattle.gfx_slot_plan.specs.Tied.{IsTied, Gives}
use Rattle.gfx_slot_plan.proofs.Ranges.{same_from}

turned : (x y : ℕ) → nat_eq x y ≡ nat_eq y x
turned x y = grind (arith, nat_tests)

-- one place among others
pub used_middle : (xs ys : Allocations) (held : ℕ × Allocation) (n : ℕ) → is_used (xs ++ held ∷ ys) n ≡ (nat_eq n held.1.slot || is_used (xs ++ ys) n)
used_middle [] ys held n = refl
used_middle (x ∷ xs) ys held n =
    ap (λ b. nat_eq n x.1.slot || b) (used_middle xs ys held n) ∙ swapped (nat_eq n x.1.slot) (nat_eq n held.1.slot) (is_used (xs ++ ys) n)
  where
    swapped : (a b c : Bool) → (a || (b || c)) ≡ (b || (a || c))
    swapped true true c = refl
    swapped true false c = refl
    swapped false b c = refl

pub total_middle : (xs ys : Allocations) (held : ℕ × Allocation) → total (xs ++ held ∷ ys) ≡ held.1.bytes + total (xs ++ ys)
total_middle [] ys held = sum_by-cons (λ (h : ℕ × Allocation). h.1.bytes) held ys
total_middle (x ∷ xs) ys held =
    let rest : total (xs ++ held ∷ ys) ≡ held.1.bytes + total (xs ++ ys) = total_middle xs ys held in
    let long : total (x ∷ (xs ++ held ∷ ys)) ≡ x.1.bytes + total (xs ++ held ∷ ys) = sum_by-cons (λ (h : ℕ × Allocation). h.1.bytes) x (xs ++ held ∷ ys) in
    let short : total (x ∷ (xs ++ ys)) ≡ x.1.bytes + total (xs ++ ys) = sum_by-cons (λ (h : ℕ × Allocation). h.1.bytes) x (xs ++ ys) in
    omega arith

not_true : (b : Bool) → not b ≡ true → b ≡ false
not_true true holds = let no : false ≡ true = holds in cc
not_true false holds = refl

neither : (a b : Bool) → (a || b) ≡ false → (a ≡ false) × (b ≡ false)
neither true b none = let no : true ≡ false = none in cc
neither false b none = (refl, none)

-- its slot is one that no other has
pub slots_middle : (last : ℕ) (xs ys : Allocations) (held : ℕ × Allocation) → AreSlots last (xs ++ held ∷ ys)
    → AreSlots last (xs ++ ys) × ((1 ≤ held.1.slot) × ((held.1.slot ≤ last) × (is_used (xs ++ ys) held.1.slot ≡ false)))
slots_middle last [] ys held (from, within, apart, rest) = (rest, (from, (within, apart)))
slots_middle last (x ∷ xs) ys held (from, within, apart, rest) =
    let others = slots_middle last xs ys held rest in
    let both = neither (nat_eq x.1.slot held.1.slot) (is_used (xs ++ ys) x.1.slot) (sym (used_middle xs ys held x.1.slot) ∙ apart) in (
      (from, within, both.1, others.0),
      (others.1.0, (others.1.1.0, (λ i. (turned held.1.slot x.1.slot ∙ both.0) i || others.1.1.1 i))),
    )

-- what its place gives back
pub tied_parts : (xs ys : Allocations) (held : ℕ × Allocation) (old : Pool) (b : ℕ) → IsTied (xs ++ held ∷ ys) old b
    → (1 ≤ held.1.slot) × ((held.1.slot ≤ old.last) × ((has_free old held.1.slot ≡ false) × (held.1.bytes ≤ b)))
tied_parts xs ys held old b tied =
    let parts = slots_middle old.last xs ys held tied.slots in
    let itself : nat_eq held.1.slot held.1.slot ≡ true = grind (arith, nat_tests) in
    let used : is_used (xs ++ held ∷ ys) held.1.slot ≡ true = used_middle xs ys held held.1.slot ∙ ap (λ b. b || is_used (xs ++ ys) held.1.slot) itself in
    let bytes = tied.counted in
    let all = total_middle xs ys held in
    (parts.1.0, (parts.1.1.0, (tied.free held.1.slot parts.1.0 parts.1.1.0 ∙ ap not used, omega arith)))

-- without it, once its slot is given back
pub tied_without : (xs ys : Allocations) (held : ℕ × Allocation) (old new : Pool) (b c : ℕ) → IsTied (xs ++ held ∷ ys) old b
    → Gives old new held.1.slot → c + held.1.bytes ≡ b → IsTied (xs ++ ys) new c
tied_without xs ys held old new b c tied gives less =
    let parts = slots_middle old.last xs ys held tied.slots in
    let bytes = tied.counted in
    let all = total_middle xs ys held in
    record {
      slots = subst (λ n. AreSlots n (xs ++ ys)) (sym gives.last) parts.0;
      free = λ n from within. gives.free n
          ∙ ap (λ f. nat_eq n held.1.slot || f) (tied.free n from (subst (λ m. n ≤ m) gives.last within) ∙ ap not (used_middle xs ys held n))
          ∙ by n (cases_eq n held.1.slot);
      counted = omega arith;
    }
  where
    by : (n : ℕ) → ((n ≡ held.1.slot) ⊎ (n ≢ held.1.slot)) → (nat_eq n held.1.slot || not (nat_eq n held.1.slot || is_used (xs ++ ys) n)) ≡ not (is_used (xs ++ ys) n)
    by n (inl same) =
        let here : nat_eq n held.1.slot ≡ true = grind (arith, nat_tests) in
        let none : is_used (xs ++ ys) n ≡ false = ap (is_used (xs ++ ys)) same ∙ (slots_middle old.last xs ys held tied.slots).1.1.1 in
        ap (λ b. b || not (b || is_used (xs ++ ys) n)) here ∙ sym (ap not none)
    by n (inr apart) =
        let differ : nat_eq n held.1.slot ≡ false = grind (arith, nat_tests) in
        ap (λ b. b || not (b || is_used (xs ++ ys) n)) differ

-- in the front
pub tied_moved : (xs ys : Allocations) (held : ℕ × Allocation) (p : Pool) (b : ℕ) → IsTied (xs ++ held ∷ ys) p b → IsTied (held ∷ (xs ++ ys)) p b
tied_moved xs ys held p b tied =
    let parts = slots_middle p.last xs ys held tied.slots in
    record {
      slots = (parts.1.0, parts.1.1.0, parts.1.1.1, parts.0);
      free = λ n from within. tied.free n from within ∙ ap not (used_middle xs ys held n);
      counted = tied.counted ∙ total_middle xs ys held ∙ sym (sum_by-cons (λ (h : ℕ × Allocation). h.1.bytes) held (xs ++ ys));
    }

-- with one more, in a slot that was free
pub tied_more : (left : Allocations) (old new : Pool) (b c key slot bytes : ℕ) → IsTied left old b → 1 ≤ slot → slot ≤ old.last → has_free old slot ≡ true
    → new.last ≡ old.last → ((n : ℕ) → has_free new n ≡ (has_free old n && not (nat_eq n slot))) → c ≡ b + bytes
    → IsTied ((key, place slot bytes) ∷ left) new c
tied_more left old new b c key slot bytes tied from within there last free more =
    let was = tied.counted in
    let all : total ((key, place slot bytes) ∷ left) ≡ bytes + total left = sum_by-cons (λ (h : ℕ × Allocation). h.1.bytes) (key, place slot bytes) left in
    let unused : is_used left slot ≡ false = not_true (is_used left slot) (sym (tied.free slot from within) ∙ there) in
    record {
      slots = subst (λ n. AreSlots n ((key, place slot bytes) ∷ left)) (sym last) (from, within, unused, tied.slots);
      free = λ n low high. free n ∙ ap (λ f. f && not (nat_eq n slot)) (tied.free n low (subst (λ m. n ≤ m) last high))
          ∙ turn (is_used left n) (nat_eq n slot);
      counted = omega arith;
    }
  where
    turn : (a b : Bool) → (not a && not b) ≡ not (b || a)
    turn true true = refl
    turn true false = refl
    turn false true = refl
    turn false false = refl

-- with nothing held all slots are free
pub tied_none : (last : ℕ) → IsTied [] (pool 1 last []) 0
tied_none last = record {
  slots = tt;
  free = λ n from within. all n from;
  counted = refl;
}
  where
    all : (n : ℕ) → 1 ≤ n → (nat_le 1 n || false) ≡ true
    all n from = grind (arith, nat_tests)

-- the pool's slots are those that no key has
pub tied_free_slots : (places : Allocations) (p : Pool) (b : ℕ) → IsTied places p b → pool_slots p ≡ free_slots p.last places
tied_free_slots places p b tied = same_from (has_free p) (λ slot. not (is_used places slot)) 1 p.last (λ n from below. tied.free n from (omega arith))

-- the same pool and the same bytes
pub tied_same : (places : Allocations) (old new : Pool) (b c : ℕ) → new ≡ old → c ≡ b → IsTied places old b → IsTied places new c
tied_same places old new b c pool bytes tied = subst (λ (z : Pool × ℕ). IsTied places z.0 z.1) (λ i. (sym pool i, sym bytes i)) tied
