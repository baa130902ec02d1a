use Rattle.std.proofs.Common.{sym, ◌∙◌}
use Rattle.gfx_surface_map.proofs.RoomLemmas.{room_made}
use Rattle.gfx_state.specs.State.{State}
use Rattle.gfx_state.proofs.ScreenLemmas.{showing_applies, surface_created_so, wants_created}
use Rattle.gfx_state.proofs.screen.State.create_surface.Goals as goal

pub invariant_of-self : goal.invariant_of-self
invariant_of-self c =
    room_made c.create.result c.self.inside.surfaces c.create.new.self _ _ _ _ c.create.ensures.made c.create.ensures.room c.create.ensures.enough c.self.invariant

pub returns-in-Some-clause-applies : goal.returns-in-Some-clause-applies
returns-in-Some-clause-applies c =
    let state : State = record { shown = c.self.inside.surfaces.shown; cache = c.self.inside.cache; clear = c.self.inside.clear; records = c.self.inside.records; frame = c.self.inside.frame; decoded = c.self.inside.decoded } in
    rw (← c.self.view_is, surface_created_so state c.args.id c.args.width c.args.height c.args.format c.in-Some.format (sym c.from_byte.ensures ∙ c.in-Some.is))
    (showing_applies c.create.result state c.create.new.self.shown _ c.create.ensures.made)

pub returns-in-Some-clause-memory : goal.returns-in-Some-clause-memory
returns-in-Some-clause-memory c =
    let state : State = record { shown = c.self.inside.surfaces.shown; cache = c.self.inside.cache; clear = c.self.inside.clear; records = c.self.inside.records; frame = c.self.inside.frame; decoded = c.self.inside.decoded } in
    rw (← c.self.view_is)
    (wants_created c.create.result state c.args.id c.args.width c.args.height c.args.format c.in-Some.format (sym c.from_byte.ensures ∙ c.in-Some.is) c.create.ensures.memory)
