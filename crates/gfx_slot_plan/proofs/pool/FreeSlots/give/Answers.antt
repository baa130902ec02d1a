use Rattle.std.proofs.Common.{◌≡◌, ◌∙◌, ap, sym, refl, arith, nat_eq, ◌||◌, false}
use Rattle.std.specs.Prelude.{IsOk}
use Rattle.std.specs.BinaryHeap.{heap_items, heap_capacity}
use Rattle.std.proofs.lemmas.List.Sorted.{length_permutation}
use Rattle.gfx_slot_plan.specs.Pool.{pool, has_free}
use Rattle.gfx_slot_plan.specs.PoolInside.{pool_of}
use Rattle.gfx_slot_plan.proofs.Pools.{OnOk-ok, any-reordered, distinct-reordered, distinct-more, below_more, free_given, room_left, taken_parts, length-numbers, numbers}
use Rattle.gfx_slot_plan.proofs.pool.FreeSlots.give.Goals as goal

pub invariant_of-self : goal.invariant_of-self
invariant_of-self c =
    let taken : has_free (pool_of c.self.inside) c.args.slot ≡ false = ap (λ p. has_free p c.args.slot) c.self.view_is ∙ c.requires.taken in
    let parts = taken_parts (pool_of c.self.inside) c.args.slot taken in
    let left = room_left (pool_of c.self.inside) c.args.slot (heap_capacity c.self.inside.returned) c.self.invariant.distinct c.self.invariant.below
    c.self.invariant.within c.self.invariant.room c.requires.first taken in
    let long = length-numbers (heap_items c.self.inside.returned) in
    let sized = c.self.invariant.sized in
    let ok : IsOk c.push.result = c.push.ensures.succeeds (omega arith) in
    let moved = OnOk-ok c.push.result _ ok c.push.ensures.permutation in
    let longer = OnOk-ok c.push.result _ ok c.push.ensures.len in
    let same = length_permutation _ _ moved in
    let cap = c.push.ensures.capacity in
    let room = c.self.invariant.room in
    record {
      ordered = OnOk-ok c.push.result _ ok c.push.ensures.heap_order c.self.invariant.ordered;
      distinct = distinct-reordered _ _ moved (distinct-more c.args.slot _ parts.1 c.self.invariant.distinct);
      below = λ q there. below_more c.self.inside.next c.args.slot _ c.requires.first parts.0 c.self.invariant.below q (sym (any-reordered _ _ q moved) ∙ there);
      first = c.self.invariant.first;
      within = c.self.invariant.within;
      last = c.self.invariant.last;
      room = omega arith;
      sized = omega arith;
    }

pub returns-clause-free : goal.returns-clause-free
returns-clause-free c =
    let taken : has_free (pool_of c.self.inside) c.args.slot ≡ false = ap (λ p. has_free p c.args.slot) c.self.view_is ∙ c.requires.taken in
    let left = room_left (pool_of c.self.inside) c.args.slot (heap_capacity c.self.inside.returned) c.self.invariant.distinct c.self.invariant.below
    c.self.invariant.within c.self.invariant.room c.requires.first taken in
    let long = length-numbers (heap_items c.self.inside.returned) in
    let sized = c.self.invariant.sized in
    let ok : IsOk c.push.result = c.push.ensures.succeeds (omega arith) in
    let moved = OnOk-ok c.push.result _ ok c.push.ensures.permutation in
    λ q.
    free_given (pool_of c.self.inside) (pool c.self.inside.next c.self.inside.last (numbers (heap_items c.push.new.self))) c.args.slot refl (λ n. any-reordered _ _ n moved) q
    ∙ ap (λ p. nat_eq q c.args.slot || has_free p q) c.self.view_is
