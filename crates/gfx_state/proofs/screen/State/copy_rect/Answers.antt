use Rattle.gfx_surface_map.proofs.RoomLemmas.{room_copied}
use Rattle.gfx_state.proofs.screen.State.copy_rect.Goals as goal

pub invariant_of-self : goal.invariant_of-self
invariant_of-self c =
    room_copied c.copy.result c.self.inside.surfaces c.copy.new.self _ _ _ _ c.copy.ensures.copied c.copy.ensures.room c.self.invariant
