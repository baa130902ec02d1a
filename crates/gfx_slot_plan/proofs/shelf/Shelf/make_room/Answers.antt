use Rattle.std.proofs.Common.{◌≡◌, ◌∙◌, ap, sym, drop, not, true, false}
use Rattle.std.specs.Vec.{vec_len, vec_capacity}
use Rattle.gfx_slot_plan.specs.Plan.{takes_more}
use Rattle.gfx_slot_plan.proofs.Dropping.{denied, granted, dropping_more, dropping_all, room_slots}
use Rattle.gfx_slot_plan.proofs.shelf.Shelf.make_room.Goals as goal

pub drops-preserved : goal.drops-preserved
drops-preserved c =
    let d = c.drops.invariant.dropping in
    let full : takes_more c.args.self.now.pool.last c.args.most c.args.bytes (drop 1 c.drops.self.places.entries) ≡ false =
    denied _ (ap (λ n. not (takes_more n c.args.most c.args.bytes (drop 1 c.drops.self.places.entries))) (sym c.drops.invariant.last) ∙ sym c.is_full.ensures ∙ c.drops-test.true) in
    record {
      dropping = dropping_more c.args.self.now.places.entries c.drops.self.places.entries c.drop_last.new.self.places.entries c.args.self.now.pool.last c.args.most c.args.bytes
          c.args.dropped.now.items c.drops.dropped.items c.drop_last.new.dropped.items c.drops.self.pool c.drop_last.new.self.pool c.drops.self.bytes c.drop_last.new.self.bytes
          (vec_len c.drops.dropped) (vec_len c.drop_last.new.dropped) (vec_capacity c.drops.dropped) (vec_capacity c.drop_last.new.dropped)
          c.requires.some d c.requires.first c.requires.alone full
          (ap (λ l. l.entries) c.drop_last.ensures.places) c.drop_last.ensures.dropped c.drop_last.ensures.tied c.drop_last.ensures.len c.drop_last.ensures.capacity;
      cap = ap (λ l. l.cap) c.drop_last.ensures.places ∙ c.drops.invariant.cap;
      last = c.drop_last.ensures.last ∙ c.drops.invariant.last;
    }

pub returns-clause-places : goal.returns-clause-places
returns-clause-places c =
    let room : takes_more c.args.self.now.pool.last c.args.most c.args.bytes (drop 1 c.drops.self.places.entries) ≡ true =
    granted _ (ap (λ n. not (takes_more n c.args.most c.args.bytes (drop 1 c.drops.self.places.entries))) (sym c.drops.invariant.last) ∙ sym c.is_full.ensures ∙ c.drops-test.false) in
    (dropping_all c.args.self.now.places.entries c.drops.self.places.entries c.args.self.now.pool.last c.args.most c.args.bytes c.args.dropped.now.items c.drops.dropped.items
    c.drops.self.pool c.drops.self.bytes (vec_len c.drops.dropped) (vec_capacity c.drops.dropped) c.requires.some c.drops.invariant.dropping room).0

pub returns-clause-dropped : goal.returns-clause-dropped
returns-clause-dropped c =
    let room : takes_more c.args.self.now.pool.last c.args.most c.args.bytes (drop 1 c.drops.self.places.entries) ≡ true =
    granted _ (ap (λ n. not (takes_more n c.args.most c.args.bytes (drop 1 c.drops.self.places.entries))) (sym c.drops.invariant.last) ∙ sym c.is_full.ensures ∙ c.drops-test.false) in
    (dropping_all c.args.self.now.places.entries c.drops.self.places.entries c.args.self.now.pool.last c.args.most c.args.bytes c.args.dropped.now.items c.drops.dropped.items
    c.drops.self.pool c.drops.self.bytes (vec_len c.drops.dropped) (vec_capacity c.drops.dropped) c.requires.some c.drops.invariant.dropping room).1

pub returns-clause-free : goal.returns-clause-free
returns-clause-free c =
    room_slots (drop 1 c.drops.self.places.entries) c.drops.self.pool c.drops.self.bytes c.args.most c.args.bytes c.drops.invariant.dropping.tied
    (granted _ (sym c.is_full.ensures ∙ c.drops-test.false))
