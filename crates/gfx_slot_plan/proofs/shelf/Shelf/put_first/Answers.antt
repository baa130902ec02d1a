use Rattle.std.proofs.Common.{◌≡◌, ◌∙◌, ap, sym, subst, nat_eq, None, arith}
use Rattle.std.specs.Map.{lookup}
use Rattle.lru.specs.LruCache.{lru_cache}
use Rattle.gfx_slot_plan.specs.Plan.{place}
use Rattle.gfx_slot_plan.specs.Tied.{IsTied}
use Rattle.gfx_slot_plan.proofs.Order.{not_among, held_parts, held_without, put_first, length-without, length-held}
use Rattle.gfx_slot_plan.proofs.shelf.Shelf.put_first.Goals as goal

pub release-requires-clause-first : goal.release-requires-clause-first
release-requires-clause-first c =
    (held_parts c.args.key c.in-Some.own c.args.self.now.places.entries c.args.self.now.pool c.args.self.now.bytes c.requires.tied
    (sym c.in_ok-held.ensures.old ∙ c.in-Some.is)).0

pub release-requires-clause-within : goal.release-requires-clause-within
release-requires-clause-within c =
    (held_parts c.args.key c.in-Some.own c.args.self.now.places.entries c.args.self.now.pool c.args.self.now.bytes c.requires.tied
    (sym c.in_ok-held.ensures.old ∙ c.in-Some.is)).1.0

pub release-requires-clause-taken : goal.release-requires-clause-taken
release-requires-clause-taken c =
    (held_parts c.args.key c.in-Some.own c.args.self.now.places.entries c.args.self.now.pool c.args.self.now.bytes c.requires.tied
    (sym c.in_ok-held.ensures.old ∙ c.in-Some.is)).1.1.0

pub release-requires-clause-counted : goal.release-requires-clause-counted
release-requires-clause-counted c =
    (held_parts c.args.key c.in-Some.own c.args.self.now.places.entries c.args.self.now.pool c.args.self.now.bytes c.requires.tied
    (sym c.in_ok-held.ensures.old ∙ c.in-Some.is)).1.1.1

pub returns-in-Some-clause-places : goal.returns-in-Some-clause-places
returns-in-Some-clause-places c =
    c.release.ensures.places ∙ c.in_ok-held.ensures.entries
    ∙ ap (λ l. lru_cache l c.args.self.now.places.cap) (put_first c.args.self.now.places c.args.key (place 0 c.args.bytes) c.requires.unbounded c.requires.fits)

pub returns-in-Some-clause-room : goal.returns-in-Some-clause-room
returns-in-Some-clause-room c =
    let fewer = length-held c.args.key c.in-Some.own c.args.self.now.places.entries (sym c.in_ok-held.ensures.old ∙ c.in-Some.is) in
    let more = c.push_reserved.ensures.len in
    let cap = c.push_reserved.ensures.capacity in
    let room = c.requires.room in
    omega arith

pub returns-in-Some-clause-tied : goal.returns-in-Some-clause-tied
returns-in-Some-clause-tied c =
    held_without c.args.key c.in-Some.own c.args.self.now.places.entries c.args.self.now.pool c.release.new.self.pool
    c.args.self.now.bytes c.release.new.self.bytes c.requires.tied (sym c.in_ok-held.ensures.old ∙ c.in-Some.is) c.release.ensures.gives c.release.ensures.bytes

pub returns-in_default-clause-places : goal.returns-in_default-clause-places
returns-in_default-clause-places c =
    c.in_ok-held.ensures.entries
    ∙ ap (λ l. lru_cache l c.args.self.now.places.cap) (put_first c.args.self.now.places c.args.key (place 0 c.args.bytes) c.requires.unbounded c.requires.fits)

pub returns-in_default-clause-room : goal.returns-in_default-clause-room
returns-in_default-clause-room c =
    let fewer = length-without c.args.key c.args.self.now.places.entries in
    let room = c.requires.room in
    omega arith

pub returns-in_default-clause-tied : goal.returns-in_default-clause-tied
returns-in_default-clause-tied c =
    let none : lookup (nat_eq c.args.key) c.args.self.now.places.entries ≡ None = sym c.in_ok-held.ensures.old ∙ c.in_default.is in
    subst (λ l. IsTied l c.args.self.now.pool c.args.self.now.bytes) (sym (not_among c.args.key c.args.self.now.places.entries none).0) c.requires.tied
