use Rattle.gfx_surface_map.proofs.RoomLemmas.{room_put}
use Rattle.gfx_state.proofs.screen.State.put_slot.Goals as goal

pub invariant_of-self : goal.invariant_of-self
invariant_of-self c =
    room_put c.put.result c.self.inside.surfaces c.put.new.self _ _ _ _ c.put.ensures.put c.put.ensures.room c.self.invariant
