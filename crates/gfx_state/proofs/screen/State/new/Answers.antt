use Rattle.std.proofs.Common.{sym, subst}
use Rattle.gfx_surface_map.specs.Shown.{AllHaveRoom}
use Rattle.gfx_surface_map.proofs.RoomLemmas.{room_none}
use Rattle.gfx_state.proofs.screen.State.new.Goals as goal

pub invariant_of-result : goal.invariant_of-result
invariant_of-result c = subst AllHaveRoom (sym c.new-2.ensures) (room_none 0)
