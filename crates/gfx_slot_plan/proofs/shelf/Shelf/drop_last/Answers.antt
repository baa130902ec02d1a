use Rattle.std.proofs.Common.{◌∙◌, ◌++◌, ap, sym, subst, drop}
use Rattle.gfx_slot_plan.specs.Plan.{slots_back}
use Rattle.gfx_slot_plan.specs.Tied.{IsTied}
use Rattle.gfx_slot_plan.proofs.Ties.{tied_same}
use Rattle.gfx_slot_plan.proofs.Order.{last_cut, last_there, last_found, last_none, last_parts, last_without}
use Rattle.gfx_slot_plan.proofs.shelf.Shelf.drop_last.Goals as goal

pub release-requires-clause-first : goal.release-requires-clause-first
release-requires-clause-first c =
    (last_parts c.args.self.now.places.entries _ c.pop_last.new.self.pool c.pop_last.new.self.bytes c.requires.some (last_found c.args.self.now.places.entries c.in-Some.place (sym c.pop_last.ensures.place ∙ c.in-Some.is)).1 (tied_same (drop 1 c.args.self.now.places.entries) _ _ _ _ c.pop_last.ensures.pool c.pop_last.ensures.bytes c.requires.tied)).0

pub release-requires-clause-within : goal.release-requires-clause-within
release-requires-clause-within c =
    (last_parts c.args.self.now.places.entries _ c.pop_last.new.self.pool c.pop_last.new.self.bytes c.requires.some (last_found c.args.self.now.places.entries c.in-Some.place (sym c.pop_last.ensures.place ∙ c.in-Some.is)).1 (tied_same (drop 1 c.args.self.now.places.entries) _ _ _ _ c.pop_last.ensures.pool c.pop_last.ensures.bytes c.requires.tied)).1.0

pub release-requires-clause-taken : goal.release-requires-clause-taken
release-requires-clause-taken c =
    (last_parts c.args.self.now.places.entries _ c.pop_last.new.self.pool c.pop_last.new.self.bytes c.requires.some (last_found c.args.self.now.places.entries c.in-Some.place (sym c.pop_last.ensures.place ∙ c.in-Some.is)).1 (tied_same (drop 1 c.args.self.now.places.entries) _ _ _ _ c.pop_last.ensures.pool c.pop_last.ensures.bytes c.requires.tied)).1.1.0

pub release-requires-clause-counted : goal.release-requires-clause-counted
release-requires-clause-counted c =
    (last_parts c.args.self.now.places.entries _ c.pop_last.new.self.pool c.pop_last.new.self.bytes c.requires.some (last_found c.args.self.now.places.entries c.in-Some.place (sym c.pop_last.ensures.place ∙ c.in-Some.is)).1 (tied_same (drop 1 c.args.self.now.places.entries) _ _ _ _ c.pop_last.ensures.pool c.pop_last.ensures.bytes c.requires.tied)).1.1.1

pub returns-in-Some-clause-dropped : goal.returns-in-Some-clause-dropped
returns-in-Some-clause-dropped c =
    c.push_reserved.ensures.items
    ∙ ap (λ l. c.args.dropped.now.items ++ slots_back l) (sym (last_cut c.args.self.now.places.entries _ c.requires.some (last_found c.args.self.now.places.entries c.in-Some.place (sym c.pop_last.ensures.place ∙ c.in-Some.is)).1).0)

pub returns-in-Some-clause-tied : goal.returns-in-Some-clause-tied
returns-in-Some-clause-tied c =
    subst (λ l. IsTied (drop 1 l.entries) c.release.new.self.pool c.release.new.self.bytes) (sym (c.release.ensures.places ∙ c.pop_last.ensures.places))
    (last_without c.args.self.now.places.entries _ c.pop_last.new.self.pool c.release.new.self.pool c.pop_last.new.self.bytes c.release.new.self.bytes
    c.requires.some (last_found c.args.self.now.places.entries c.in-Some.place (sym c.pop_last.ensures.place ∙ c.in-Some.is)).1 (tied_same (drop 1 c.args.self.now.places.entries) _ _ _ _ c.pop_last.ensures.pool c.pop_last.ensures.bytes c.requires.tied) c.release.ensures.gives c.release.ensures.bytes)

pub returns-in_default-clause-dropped : goal.returns-in_default-clause-dropped
returns-in_default-clause-dropped c =
    let no = last_there c.args.self.now.places.entries c.requires.some (last_none c.args.self.now.places.entries (sym c.pop_last.ensures.place ∙ c.in_default.is)) in absurd cc

pub returns-in_default-clause-len : goal.returns-in_default-clause-len
returns-in_default-clause-len c =
    let no = last_there c.args.self.now.places.entries c.requires.some (last_none c.args.self.now.places.entries (sym c.pop_last.ensures.place ∙ c.in_default.is)) in absurd cc

pub returns-in_default-clause-tied : goal.returns-in_default-clause-tied
returns-in_default-clause-tied c =
    let no = last_there c.args.self.now.places.entries c.requires.some (last_none c.args.self.now.places.entries (sym c.pop_last.ensures.place ∙ c.in_default.is)) in absurd cc
