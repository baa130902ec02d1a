-- No key is held twice.
use Rattle.std.proofs.Common.{◌≡◌, ◌∙◌, ◌≤◌, ap, sym, refl, subst, cond, nat_eq, Bool, true, false, ℕ, zero, suc, [], ◌∷◌, length, take, Some, None, arith}
use Rattle.std.specs.Map.{lookup}
use Rattle.std.specs.Option.{option_map_or}
use Rattle.std.proofs.lemmas.Bool.Decides.{nat_tests}
use Rattle.lru.specs.LruCache.{promoted}
use Rattle.gfx_slot_plan.specs.declared.allocation.Allocation.{Allocation}
use Rattle.gfx_bitmap_cache.specs.Slots.{budget}
use Rattle.gfx_slot_plan.specs.Plan.{Allocations, AreKeys, AreSlots, IsPlan, without, left_for, staying}
use Rattle.gfx_slot_plan.specs.declared.plan.SlotPlan.TheInside.{Inside}
use Rattle.gfx_slot_plan.specs.Inside.{plan_of, IsSound}
use Rattle.gfx_slot_plan.proofs.Order.{found_entry}

-- a key that none has
not_there : (q : ℕ) (e : ℕ × Allocation) (es : Allocations) → lookup (nat_eq q) (e ∷ es) ≡ None → (nat_eq q e.0 ≡ false) × (lookup (nat_eq q) es ≡ None)
not_there q e es none = by (nat_eq q e.0) refl
  where
    by : (b : Bool) → nat_eq q e.0 ≡ b → (nat_eq q e.0 ≡ false) × (lookup (nat_eq q) es ≡ None)
    by true same = let some : Some e.1 ≡ None = sym (ap (λ b. cond b (Some e.1) (lookup (nat_eq q) es)) same) ∙ none in absurd cc
    by false differ = (differ, sym (ap (λ b. cond b (Some e.1) (lookup (nat_eq q) es)) differ) ∙ none)

skipped : (q : ℕ) (e : ℕ × Allocation) (es : Allocations) → nat_eq q e.0 ≡ false → lookup (nat_eq q) es ≡ None → lookup (nat_eq q) (e ∷ es) ≡ None
skipped q e es differ none = ap (λ b. cond b (Some e.1) (lookup (nat_eq q) es)) differ ∙ none

still_none : (q key : ℕ) (all : Allocations) → lookup (nat_eq q) all ≡ None → lookup (nat_eq q) (without key all) ≡ None
still_none q key [] none = refl
still_none q key (e ∷ es) none =
    let parts = not_there q e es none in
    by (nat_eq key e.0) parts.0 parts.1 (still_none q key es parts.1)
  where
    by : (b : Bool) → nat_eq q e.0 ≡ false → lookup (nat_eq q) es ≡ None → lookup (nat_eq q) (without key es) ≡ None
        → lookup (nat_eq q) (cond b es (e ∷ without key es)) ≡ None
    by true differ none_there rest = none_there
    by false differ none_there rest = skipped q e (without key es) differ rest

-- without a key, it is there no more
pub keys_without : (key : ℕ) (all : Allocations) → AreKeys all → AreKeys (without key all) × (lookup (nat_eq key) (without key all) ≡ None)
keys_without key [] keys = (tt, refl)
keys_without key (e ∷ es) keys = by (nat_eq key e.0) refl (keys_without key es keys.1)
  where
    by : (b : Bool) → nat_eq key e.0 ≡ b → AreKeys (without key es) × (lookup (nat_eq key) (without key es) ≡ None)
        → AreKeys (without key (e ∷ es)) × (lookup (nat_eq key) (without key (e ∷ es)) ≡ None)
    by true same rest =
        let is : e.0 ≡ key = grind (arith, nat_tests) in
        subst (λ l. AreKeys l × (lookup (nat_eq key) l ≡ None)) (sym (ap (λ b. cond b es (e ∷ without key es)) same))
        (keys.1, subst (λ k. lookup (nat_eq k) es ≡ None) is keys.0)
    by false differ rest =
        subst (λ l. AreKeys l × (lookup (nat_eq key) l ≡ None)) (sym (ap (λ b. cond b es (e ∷ without key es)) differ))
        ((still_none e.0 key es keys.0, rest.0), skipped key e (without key es) differ rest.1)

none_taken : (q n : ℕ) (all : Allocations) → lookup (nat_eq q) all ≡ None → lookup (nat_eq q) (take n all) ≡ None
none_taken q zero all none = refl
none_taken q (suc n) [] none = refl
none_taken q (suc n) (e ∷ es) none =
    let parts = not_there q e es none in skipped q e (take n es) parts.0 (none_taken q n es parts.1)

keys_take : (n : ℕ) (all : Allocations) → AreKeys all → AreKeys (take n all)
keys_take zero all keys = tt
keys_take (suc n) [] keys = tt
keys_take (suc n) (e ∷ es) keys = (none_taken e.0 n es keys.0, keys_take n es keys.1)

-- a used key goes first
pub keys_first : (key : ℕ) (held : Allocation) (all : Allocations) → AreKeys all → lookup (nat_eq key) all ≡ Some held → AreKeys (promoted (nat_eq key) all)
keys_first key held all keys there =
    let parts = keys_without key all keys in
    subst AreKeys (sym (ap (λ o. option_map_or (λ e. e ∷ without key all) o all) (found_entry key held all there))) (parts.1, parts.0)

-- a kept key goes first, and some of the others stay
pub keys_kept : (key : ℕ) (held : Allocation) (last most bytes : ℕ) (all : Allocations) → AreKeys all → AreKeys ((key, held) ∷ left_for last most bytes (without key all))
keys_kept key held last most bytes all keys =
    let parts = keys_without key all keys in
    let others = without key all in
    let n = staying last most bytes others (length others) in
    (none_taken key n others parts.1, keys_take n others parts.0)

-- what the fields keep is what holds of every plan
pub sound_plan : (a : Inside) → IsSound a → IsPlan (plan_of a)
sound_plan a sound = record {
  keys = sound.keys;
  slots = subst (λ n. AreSlots n a.shelf.places.entries) sound.last sound.tied.slots;
  within = subst (λ n. n ≤ budget a.small) sound.tied.counted sound.within;
}
