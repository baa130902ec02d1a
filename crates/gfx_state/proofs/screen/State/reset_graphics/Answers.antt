use Rattle.gfx_surface_map.proofs.RoomLemmas.{room_reset}
use Rattle.gfx_state.proofs.screen.State.reset_graphics.Goals as goal

pub invariant_of-self : goal.invariant_of-self
invariant_of-self c =
    room_reset c.reset.result c.self.inside.surfaces c.reset.new.self _ _ c.reset.ensures.reset c.reset.ensures.room c.self.invariant

pub invariant_of-self-2 : goal.invariant_of-self-2
invariant_of-self-2 c =
    room_reset c.reset.result c.self.inside.surfaces c.reset.new.self _ _ c.reset.ensures.reset c.reset.ensures.room c.self.invariant
