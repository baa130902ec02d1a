-- What holds of every cache, after a change.
use Rattle.std.proofs.Common.{◌≡◌, ◌∙◌, ◌<◌, ◌≤◌, ◌^◌, ap, sym, subst, Bool, true, false, ℕ, Ok, Err, arith, nat_le}
use Rattle.std.specs.Prelude.{IsSome, IsTrue}
use Rattle.std.specs.Ordering.{nat_cmp}
use Rattle.std.specs.FinMap.{FinMap, get, insert, remove, empty}
use Rattle.std.proofs.lemmas.Bool.Decides.{nat_tests}
use Rattle.gfx_bitmap_cache.specs.declared.limits.TheConstants.{MOST_BYTES}
use Rattle.gfx_bitmap_cache.specs.Slots.{Entry, Cached, IsCached, cached, total, is_slot, takes_slot, budget, has_room, stored}
use Rattle.gfx_base.specs.declared.refusal.Refusal.TheVariants.{SlotRange, CacheBudget}
use Rattle.gfx_base.specs.Results.{and_then, check}
use Rattle.gfx_base.proofs.MapLemmas.{keys-insert, keys-remove, keys-empty}
use Rattle.gfx_bitmap_cache.proofs.Totals.{total-remove, total-empty, total-with}

-- a slot that a store takes is one
slot_taken : (small : Bool) (slot : ℕ) → takes_slot small slot ≡ true → IsTrue (is_slot slot)
slot_taken true slot taken = grind (arith, nat_tests)
slot_taken false slot taken = taken

-- no budget is above the large one
budget_most : (small : Bool) (n : ℕ) → n ≤ budget small → n ≤ MOST_BYTES
budget_most true n within = omega arith
budget_most false n within = within

pub kept-insert : (old new : FinMap nat_cmp Entry) (slot : ℕ) (held : Entry) (small : Bool) → new ≡ insert old slot held
    → takes_slot small slot ≡ true → total (insert old slot held) ≤ budget small
    → IsCached (cached old small) → IsCached (cached new small)
kept-insert old new slot held small is taken within kept = record {
  slots = subst (λ m. (q : ℕ) → IsSome (get m q) → IsTrue (is_slot q)) (sym is)
      (keys-insert (λ q. IsTrue (is_slot q)) old slot held (slot_taken small slot taken) kept.slots);
  within = subst (λ m. total m ≤ MOST_BYTES) (sym is) (budget_most small (total (insert old slot held)) within);
}

pub kept-remove : (old new : FinMap nat_cmp Entry) (slot : ℕ) (small : Bool) → new ≡ remove old slot
    → IsCached (cached old small) → IsCached (cached new small)
kept-remove old new slot small is kept = record {
  slots = subst (λ m. (q : ℕ) → IsSome (get m q) → IsTrue (is_slot q)) (sym is)
      (keys-remove (λ q. IsTrue (is_slot q)) old slot kept.slots);
  within = subst (λ m. total m ≤ MOST_BYTES) (sym is)
      (let less = total-remove old slot in let most = kept.within in omega arith);
}

pub kept-empty : (new : FinMap nat_cmp Entry) (small : Bool) → new ≡ empty → IsCached (cached new small)
kept-empty new small is = record {
  slots = subst (λ m. (q : ℕ) → IsSome (get m q) → IsTrue (is_slot q)) (sym is) (keys-empty Entry (λ q. IsTrue (is_slot q)));
  within = subst (λ m. total m ≤ MOST_BYTES) (sym is) (subst (λ n. n ≤ MOST_BYTES) (sym total-empty) (omega arith));
}

-- a slot is below any limit past the last
pub slots_below : (cache : Cached) → IsCached cache → (slot : ℕ) → IsSome (get cache.slots slot) → slot < 2 ^ 16
slots_below cache kept slot there = let is : is_slot slot ≡ true = kept.slots slot there in grind (arith, nat_tests)

-- a slot that is taken and room are enough for a store
pub stored-ok : (cache : Cached) (slot : ℕ) (held : Entry) → takes_slot cache.small slot ≡ true
    → total (insert cache.slots slot held) ≤ budget cache.small
    → stored cache slot held ≡ Ok (cached (insert cache.slots slot held) cache.small)
unfolding stored and_then
stored-ok cache slot held taken within =
    let room : nat_le (total (insert cache.slots slot held)) (budget cache.small) ≡ true = grind (arith, nat_tests) in
    λ i. and_then (check SlotRange (taken i)) (λ _. and_then (check CacheBudget (room i)) (λ _. Ok (cached (insert cache.slots slot held) cache.small)))

-- a slot that is taken and no room for the sides refuse a store, whatever else the entry holds
pub stored-full : (cache : Cached) (slot : ℕ) (held : Entry) → takes_slot cache.small slot ≡ true
    → has_room cache slot held.image.width held.image.height ≡ false → stored cache slot held ≡ Err CacheBudget
unfolding stored and_then
stored-full cache slot held taken full =
    let over : nat_le (total (insert cache.slots slot held)) (budget cache.small) ≡ false =
    ap (λ n. nat_le n (budget cache.small)) (total-with cache.slots slot held) ∙ full in
    λ i. and_then (check SlotRange (taken i)) (λ _. and_then (check CacheBudget (over i)) (λ _. Ok (cached (insert cache.slots slot held) cache.small)))

-- and room for them lets it happen
pub stored-fits : (cache : Cached) (slot : ℕ) (held : Entry) → takes_slot cache.small slot ≡ true
    → has_room cache slot held.image.width held.image.height ≡ true → stored cache slot held ≡ Ok (cached (insert cache.slots slot held) cache.small)
unfolding stored and_then
stored-fits cache slot held taken room =
    let fits : nat_le (total (insert cache.slots slot held)) (budget cache.small) ≡ true =
    ap (λ n. nat_le n (budget cache.small)) (total-with cache.slots slot held) ∙ room in
    λ i. and_then (check SlotRange (taken i)) (λ _. and_then (check CacheBudget (fits i)) (λ _. Ok (cached (insert cache.slots slot held) cache.small)))
