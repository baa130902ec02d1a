use Rattle.gfx_surface_map.proofs.RoomLemmas.{room_deleted}
use Rattle.gfx_state.proofs.screen.State.delete_surface.Goals as goal

pub invariant_of-self : goal.invariant_of-self
invariant_of-self c =
    room_deleted c.delete.result c.self.inside.surfaces c.delete.new.self _ c.delete.ensures.deleted c.delete.ensures.room c.self.invariant

pub invariant_of-self-2 : goal.invariant_of-self-2
invariant_of-self-2 c =
    room_deleted c.delete.result c.self.inside.surfaces c.delete.new.self _ c.delete.ensures.deleted c.delete.ensures.room c.self.invariant
