use Rattle.std.proofs.Common.{◌≡◌, ◌∙◌, ap, sym, subst, nat_eq, false, true, arith, length}
use Rattle.std.specs.List.{list_any, IsDistinct}
use Rattle.gfx_slot_plan.proofs.Pools.{numbers, distinct-none}
use Rattle.gfx_slot_plan.proofs.pool.FreeSlots.new.Goals as goal

pub invariant_of-result : goal.invariant_of-result
invariant_of-result c =
    let none = c.in_ok-returned.ensures.items in
    let room = c.in_ok-returned.ensures.exact in
    let is = c.from.ensures in
    record {
      ordered = c.in_ok-returned.ensures.heap_order;
      distinct = subst (λ l. IsDistinct nat_eq (numbers l)) (sym none) distinct-none;
      below = λ q there. let no : false ≡ true = sym (ap (λ l. list_any (nat_eq q) (numbers l)) none) ∙ there in absurd cc;
      first = omega arith;
      within = omega arith;
      last = c.requires;
      room = omega arith;
      sized = c.in_ok-returned.ensures.len ∙ sym (ap length none);
    }
