use Rattle.std.proofs.Common.{◌≡◌, ◌∙◌, ap, sym, subst, nat_eq, None, arith}
use Rattle.std.specs.Map.{lookup}
use Rattle.gfx_slot_plan.specs.Plan.{AreKeys}
use Rattle.gfx_slot_plan.specs.Tied.{IsTied}
use Rattle.gfx_slot_plan.proofs.Order.{not_among, held_parts, held_without}
use Rattle.gfx_slot_plan.proofs.Keys.{keys_without, sound_plan}
use Rattle.gfx_slot_plan.proofs.plan.SlotPlan.forget.Goals as goal

pub invariant_of-self : goal.invariant_of-self
invariant_of-self c =
    let all = c.self.inside.shelf.places.entries in
    let none : lookup (nat_eq c.args.key) all ≡ None = sym c.pop.ensures.value ∙ c.in_err-place.was in
    record {
      tied = subst (λ l. IsTied l.entries c.self.inside.shelf.pool c.self.inside.shelf.bytes) (sym c.pop.ensures.entries)
          (subst (λ l. IsTied l c.self.inside.shelf.pool c.self.inside.shelf.bytes) (sym (not_among c.args.key all none).0) c.self.invariant.tied);
      keys = subst (λ l. AreKeys l.entries) (sym c.pop.ensures.entries) (keys_without c.args.key all c.self.invariant.keys).0;
      last = c.self.invariant.last;
      within = c.self.invariant.within;
      unbounded = ap (λ l. l.cap) c.pop.ensures.entries ∙ c.self.invariant.unbounded;
    }

pub release-requires-clause-first : goal.release-requires-clause-first
release-requires-clause-first c =
    (held_parts c.args.key c.in_ok-place.place c.self.inside.shelf.places.entries c.self.inside.shelf.pool c.self.inside.shelf.bytes c.self.invariant.tied
    (sym c.pop.ensures.value ∙ c.in_ok-place.was)).0

pub release-requires-clause-within : goal.release-requires-clause-within
release-requires-clause-within c =
    (held_parts c.args.key c.in_ok-place.place c.self.inside.shelf.places.entries c.self.inside.shelf.pool c.self.inside.shelf.bytes c.self.invariant.tied
    (sym c.pop.ensures.value ∙ c.in_ok-place.was)).1.0

pub release-requires-clause-taken : goal.release-requires-clause-taken
release-requires-clause-taken c =
    (held_parts c.args.key c.in_ok-place.place c.self.inside.shelf.places.entries c.self.inside.shelf.pool c.self.inside.shelf.bytes c.self.invariant.tied
    (sym c.pop.ensures.value ∙ c.in_ok-place.was)).1.1.0

pub release-requires-clause-counted : goal.release-requires-clause-counted
release-requires-clause-counted c =
    (held_parts c.args.key c.in_ok-place.place c.self.inside.shelf.places.entries c.self.inside.shelf.pool c.self.inside.shelf.bytes c.self.invariant.tied
    (sym c.pop.ensures.value ∙ c.in_ok-place.was)).1.1.1

pub invariant_of-self-2 : goal.invariant_of-self-2
invariant_of-self-2 c =
    let left = c.release.ensures.bytes in
    let most = c.self.invariant.within in
    let places = c.release.ensures.places ∙ c.pop.ensures.entries in
    record {
      tied = subst (λ l. IsTied l.entries c.release.new.self.pool c.release.new.self.bytes) (sym places)
          (held_without c.args.key c.in_ok-place.place c.self.inside.shelf.places.entries c.self.inside.shelf.pool c.release.new.self.pool
          c.self.inside.shelf.bytes c.release.new.self.bytes c.self.invariant.tied (sym c.pop.ensures.value ∙ c.in_ok-place.was) c.release.ensures.gives left);
      keys = subst (λ l. AreKeys l.entries) (sym places) (keys_without c.args.key c.self.inside.shelf.places.entries c.self.invariant.keys).0;
      last = c.release.ensures.gives.last ∙ c.self.invariant.last;
      within = omega arith;
      unbounded = ap (λ l. l.cap) places ∙ c.self.invariant.unbounded;
    }

pub returns-in_err-place-clause-plan : goal.returns-in_err-place-clause-plan
returns-in_err-place-clause-plan c =
    sound_plan record { shelf = record { places = c.pop.new.self; pool = c.self.inside.shelf.pool; bytes = c.self.inside.shelf.bytes }; small = c.self.inside.small } (invariant_of-self c)

pub returns-clause-plan : goal.returns-clause-plan
returns-clause-plan c = sound_plan record { shelf = c.release.new.self; small = c.self.inside.small } (invariant_of-self-2 c)
