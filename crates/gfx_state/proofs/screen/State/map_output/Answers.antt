use Rattle.gfx_surface_map.proofs.RoomLemmas.{room_mapped}
use Rattle.gfx_state.specs.State.{State}
use Rattle.gfx_state.proofs.ScreenLemmas.{wants_showing}
use Rattle.gfx_state.proofs.screen.State.map_output.Goals as goal

pub invariant_of-self : goal.invariant_of-self
invariant_of-self c =
    room_mapped c.map_output.result c.self.inside.surfaces c.map_output.new.self _ _ c.map_output.ensures.mapped c.map_output.ensures.room c.self.invariant

pub returns-clause-memory : goal.returns-clause-memory
returns-clause-memory c =
    let state : State = record { shown = c.self.inside.surfaces.shown; cache = c.self.inside.cache; clear = c.self.inside.clear; records = c.self.inside.records; frame = c.self.inside.frame; decoded = c.self.inside.decoded } in
    rw (← c.self.view_is) (wants_showing c.map_output.result state _ c.map_output.ensures.memory)
