use Rattle.std.proofs.Common.{◌≡◌, ◌≤◌, ◌∙◌, ap, sym, subst, nat_eq, ◌∷◌, Some, None}
use Rattle.std.specs.Map.{lookup}
use Rattle.std.specs.Option.{option_map_or, option_copied}
use Rattle.gfx_bitmap_cache.specs.Slots.{budget}
use Rattle.gfx_slot_plan.specs.Plan.{Plan, AreKeys, plan, touched, without}
use Rattle.gfx_slot_plan.specs.Tied.{IsTied}
use Rattle.gfx_slot_plan.proofs.Ties.{tied_same}
use Rattle.gfx_slot_plan.proofs.Order.{not_among, held_first}
use Rattle.gfx_slot_plan.proofs.Keys.{keys_first, sound_plan}
use Rattle.gfx_slot_plan.proofs.plan.SlotPlan.touch.Goals as goal

pub returns-in_err-slot-clause-order : goal.returns-in_err-slot-clause-order
returns-in_err-slot-clause-order c =
    let all = c.self.inside.shelf.places.entries in
    let none : lookup (nat_eq c.args.key) all ≡ None = sym c.peek.ensures ∙ ap option_copied c.in_err-slot.was in
    subst (λ (p : Plan). p ≡ touched p c.args.key) c.self.view_is
    (ap (λ o. plan (option_map_or (λ held. held ∷ without c.args.key all) o all) c.self.inside.small) (sym (not_among c.args.key all none).1))

pub invariant_of-self : goal.invariant_of-self
invariant_of-self c =
    let all = c.self.inside.shelf.places.entries in
    let there : lookup (nat_eq c.args.key) all ≡ Some c.in_ok-slot.field-0.now = sym c.peek.ensures ∙ ap option_copied c.in_ok-slot.was in
    let tied = held_first c.args.key c.in_ok-slot.field-0.now all c.self.inside.shelf.pool c.self.inside.shelf.bytes c.self.invariant.tied there in
    record {
      tied = subst (λ l. IsTied l.entries c.refresh.new.self.pool c.refresh.new.self.bytes) (sym c.refresh.ensures.places)
          (tied_same _ _ _ _ _ c.refresh.ensures.pool c.refresh.ensures.bytes tied);
      keys = subst (λ l. AreKeys l.entries) (sym c.refresh.ensures.places) (keys_first c.args.key c.in_ok-slot.field-0.now all c.self.invariant.keys there);
      last = ap (λ p. p.last) c.refresh.ensures.pool ∙ c.self.invariant.last;
      within = subst (λ n. n ≤ budget c.self.inside.small) (sym c.refresh.ensures.bytes) c.self.invariant.within;
      unbounded = ap (λ l. l.cap) c.refresh.ensures.places ∙ c.self.invariant.unbounded;
    }

pub returns-clause-plan : goal.returns-clause-plan
returns-clause-plan c = sound_plan record { shelf = c.refresh.new.self; small = c.self.inside.small } (invariant_of-self c)
