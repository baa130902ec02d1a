use Rattle.std.proofs.Common.{◌≡◌, ◌∙◌, ap, sym, subst, refl, arith, nat_eq, ◌&&◌, not, false, length}
use Rattle.std.specs.Prelude.{slice_get}
use Rattle.std.specs.BinaryHeap.{heap_items, IsHeap}
use Rattle.std.specs.List.{list_any, IsDistinct}
use Rattle.std.proofs.lemmas.List.Sorted.{length_permutation}
use Rattle.gfx_slot_plan.specs.Pool.{pool, has_free, pool_slots, is_none}
use Rattle.gfx_slot_plan.specs.PoolInside.{pool_of}
use Rattle.gfx_slot_plan.proofs.Pools.{numbers, no_numbers, popped_there, any-reordered, distinct-reordered, distinct-first, distinct-rest, pool-fresh_first, none_below, least_first, free_taken, below_rest}
use Rattle.gfx_slot_plan.proofs.pool.FreeSlots.take.Goals as goal

pub invariant_of-self : goal.invariant_of-self
invariant_of-self c =
    let moved = c.in-Some.ensures.permutation in
    let apart = distinct-reordered _ _ moved c.self.invariant.distinct in
    let shorter = c.in-Some.ensures.len in
    let same = length_permutation _ _ moved in
    let sized = c.self.invariant.sized in
    let cap = c.pop.ensures.capacity in
    let room = c.self.invariant.room in
    record {
      ordered = (c.in-Some.ensures.heap_order c.self.invariant.ordered).0;
      distinct = distinct-rest _ _ apart;
      below = λ q there. c.self.invariant.below q (sym (any-reordered _ _ q moved) ∙ below_rest q _ _ there);
      first = c.self.invariant.first;
      within = c.self.invariant.within;
      last = c.self.invariant.last;
      room = omega arith;
      sized = omega arith;
    }

pub invariant_of-self-in-None : goal.invariant_of-self-in-None
invariant_of-self-in-None c =
    let some : is_none (pool_slots (pool_of c.self.inside)) ≡ false = ap (λ p. is_none (pool_slots p)) c.self.view_is ∙ c.requires in
    let none = no_numbers (heap_items c.self.inside.returned) _ c.self.invariant.sized c.in-None.ensures.none in
    let first = pool-fresh_first (pool_of c.self.inside) none c.self.invariant.first some in
    let within = first.0 in
    let same = c.in-None.ensures.unchanged.0 in
    let as_long = c.in-None.ensures.unchanged.1 in
    let sized = c.self.invariant.sized in
    let cap = c.pop.ensures.capacity in
    let room = c.self.invariant.room in
    let low = c.self.invariant.first in
    record {
      ordered = subst (IsHeap _) (sym same) c.self.invariant.ordered;
      distinct = subst (λ l. IsDistinct nat_eq (numbers l)) (sym same) c.self.invariant.distinct;
      below = λ q there.
          let bounds = c.self.invariant.below q (sym (ap (λ l. list_any (nat_eq q) (numbers l)) same) ∙ there) in
          let below = bounds.1 in (bounds.0, omega arith);
      first = omega arith;
      within = omega arith;
      last = c.self.invariant.last;
      room = omega arith;
      sized = as_long ∙ sized ∙ sym (ap length same);
    }

pub returns-in-Some-clause-slot : goal.returns-in-Some-clause-slot
returns-in-Some-clause-slot c =
    let moved = c.in-Some.ensures.permutation in
    let least = (c.in-Some.ensures.heap_order c.self.invariant.ordered).1 in
    let there = popped_there _ _ c.in-Some.field-0 moved in
    let bounds = c.self.invariant.below c.in-Some.field-0.0 there in
    ap (λ p. slice_get (pool_slots p) 0) (sym c.self.view_is)
    ∙ least_first (pool_of c.self.inside) c.in-Some.field-0.0 there bounds.0 bounds.1 c.self.invariant.within
    (λ q less. none_below c.in-Some.field-0.0 (heap_items c.self.inside.returned) q least less)

pub returns-in-Some-clause-free : goal.returns-in-Some-clause-free
returns-in-Some-clause-free c =
    let moved = c.in-Some.ensures.permutation in
    let there = popped_there _ _ c.in-Some.field-0 moved in
    let bounds = c.self.invariant.below c.in-Some.field-0.0 there in
    let apart = distinct-reordered _ _ moved c.self.invariant.distinct in
    λ q.
    free_taken (pool_of c.self.inside) (pool c.self.inside.next c.self.inside.last (numbers (heap_items c.pop.new.self))) c.in-Some.field-0.0 refl bounds.1
    (λ n. sym (any-reordered _ _ n moved)) (distinct-first _ _ apart) q
    ∙ ap (λ p. has_free p q && not (nat_eq q c.in-Some.field-0.0)) c.self.view_is

pub returns-in-None-clause-slot : goal.returns-in-None-clause-slot
returns-in-None-clause-slot c =
    let some : is_none (pool_slots (pool_of c.self.inside)) ≡ false = ap (λ p. is_none (pool_slots p)) c.self.view_is ∙ c.requires in
    let none = no_numbers (heap_items c.self.inside.returned) _ c.self.invariant.sized c.in-None.ensures.none in
    let first = pool-fresh_first (pool_of c.self.inside) none c.self.invariant.first some in
    ap (λ p. slice_get (pool_slots p) 0) (sym c.self.view_is) ∙ first.1
