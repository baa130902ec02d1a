use Rattle.std.proofs.Common.{◌≡◌, ◌∙◌, true, sym, refl}
use Rattle.gfx_base.specs.Geometry.{width_of, height_of}
use Rattle.gfx_bitmap_cache.specs.Slots.{has_room}
use Rattle.gfx_state.specs.State.{State}
use Rattle.gfx_state.proofs.ScreenLemmas.{rect_stored_full, wants_stored}
use Rattle.gfx_state.proofs.screen.State.store_rect.Goals as goal

pub returns-then-not-has_room-clause-applies : goal.returns-then-not-has_room-clause-applies
returns-then-not-has_room-clause-applies c =
    let state : State = record { shown = c.self.inside.surfaces.shown; cache = c.self.inside.cache; clear = c.self.inside.clear; records = c.self.inside.records; frame = c.self.inside.frame; decoded = c.self.inside.decoded } in
    rw (← c.self.view_is) (
      rect_stored_full state c.args.id c.args.key c.args.slot c.args.rect c.in-Some.surface.now (sym c.in-Some.ensures)
          (sym c.takes_slot.ensures ∙ c.if-not-takes_slot.false) (sym c.lies_on.ensures ∙ c.if-not-lies_on.false)
          ((λ i. has_room c.self.inside.cache c.args.slot (sym c.width.ensures i) (sym c.height.ensures i)) ∙ sym c.has_room.ensures ∙ c.if-not-has_room.true),
      refl,
    )

pub returns-in_err-bitmap-clause-memory : goal.returns-in_err-bitmap-clause-memory
returns-in_err-bitmap-clause-memory c =
    let state : State = record { shown = c.self.inside.surfaces.shown; cache = c.self.inside.cache; clear = c.self.inside.clear; records = c.self.inside.records; frame = c.self.inside.frame; decoded = c.self.inside.decoded } in
    let room : has_room c.self.inside.cache c.args.slot (width_of c.args.rect) (height_of c.args.rect) ≡ true =
    (λ i. has_room c.self.inside.cache c.args.slot (sym c.width.ensures i) (sym c.height.ensures i)) ∙ sym c.has_room.ensures ∙ c.if-not-has_room.false in
    rw (← c.self.view_is)
    (wants_stored c.from_residual.result state c.args.id c.args.key c.args.slot c.args.rect c.in-Some.surface.now (sym c.in-Some.ensures)
    (sym c.takes_slot.ensures ∙ c.if-not-takes_slot.false) (sym c.lies_on.ensures ∙ c.if-not-lies_on.false) room)

pub returns-clause-memory : goal.returns-clause-memory
returns-clause-memory c =
    let state : State = record { shown = c.self.inside.surfaces.shown; cache = c.self.inside.cache; clear = c.self.inside.clear; records = c.self.inside.records; frame = c.self.inside.frame; decoded = c.self.inside.decoded } in
    let room : has_room c.self.inside.cache c.args.slot (width_of c.args.rect) (height_of c.args.rect) ≡ true =
    (λ i. has_room c.self.inside.cache c.args.slot (sym c.width.ensures i) (sym c.height.ensures i)) ∙ sym c.has_room.ensures ∙ c.if-not-has_room.false in
    rw (← c.self.view_is)
    (wants_stored c.store.result state c.args.id c.args.key c.args.slot c.args.rect c.in-Some.surface.now (sym c.in-Some.ensures)
    (sym c.takes_slot.ensures ∙ c.if-not-takes_slot.false) (sym c.lies_on.ensures ∙ c.if-not-lies_on.false) room)
