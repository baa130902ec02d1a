use Rattle.std.proofs.Common.{◌≤◌, ◌∙◌, ap, sym, subst}
use Rattle.gfx_slot_plan.specs.Plan.{AreKeys, place}
use Rattle.gfx_slot_plan.proofs.Keys.{keys_kept, sound_plan}
use Rattle.gfx_slot_plan.proofs.plan.SlotPlan.keep.Goals as goal

pub invariant_of-self-2 : goal.invariant_of-self-2
invariant_of-self-2 c = record {
  tied = c.in_ok-slot.ensures.tied;
  keys = subst (λ l. AreKeys l.entries) (sym c.in_ok-slot.ensures.places)
      (keys_kept c.args.key (place c.in_ok-slot.slot c.bytes_for-bytes.result) c.self.inside.shelf.pool.last c.budget-most.result c.bytes_for-bytes.result
      c.self.inside.shelf.places.entries c.self.invariant.keys);
  last = c.in_ok-slot.ensures.last ∙ c.self.invariant.last;
  within = subst (λ n. c.keep.new.self.bytes ≤ n) c.budget-most.ensures c.in_ok-slot.ensures.within;
  unbounded = ap (λ l. l.cap) c.in_ok-slot.ensures.places ∙ c.self.invariant.unbounded;
}

pub returns-clause-plan : goal.returns-clause-plan
returns-clause-plan c = sound_plan record { shelf = c.keep.new.self; small = c.self.inside.small } (invariant_of-self-2 c)
