use Rattle.std.proofs.Common.{◌≡◌, ◌<◌, ◌∙◌, ap, sym, arith}
use Rattle.std.specs.BinaryHeap.{heap_items, heap_len}
use Rattle.std.proofs.lemmas.Bool.Decides.{nat_tests}
use Rattle.gfx_slot_plan.specs.Pool.{pool_slots, is_none}
use Rattle.gfx_slot_plan.specs.PoolInside.{pool_of}
use Rattle.gfx_slot_plan.proofs.Pools.{no_numbers, pool-fresh, pool-returned, length-numbers}
use Rattle.gfx_slot_plan.proofs.pool.FreeSlots.is_empty.Goals as goal

pub returns-then-is_empty : goal.returns-then-is_empty
returns-then-is_empty c =
    let len : heap_len c.self.inside.returned ≡ 0 = let e = sym c.is_empty.ensures ∙ c.if-is_empty.true in grind (arith, nat_tests) in
    let none = no_numbers (heap_items c.self.inside.returned) _ c.self.invariant.sized len in
    sym (pool-fresh (pool_of c.self.inside) none c.self.invariant.first) ∙ ap (λ p. is_none (pool_slots p)) c.self.view_is

pub returns-else-is_empty : goal.returns-else-is_empty
returns-else-is_empty c =
    let e = sym c.is_empty.ensures ∙ c.if-is_empty.false in
    let some : 0 < heap_len c.self.inside.returned = grind (arith, nat_tests) in
    let sized = c.self.invariant.sized in
    let long = length-numbers (heap_items c.self.inside.returned) in
    c.if-is_empty.false ∙ sym (pool-returned (pool_of c.self.inside) (omega arith) c.self.invariant.below c.self.invariant.within)
    ∙ ap (λ p. is_none (pool_slots p)) c.self.view_is
