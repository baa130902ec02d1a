use Rattle.gfx_planner.proofs.LiveShown.{live-tiles-shown}
use Rattle.gfx_planner.proofs.laws.live_tiles_are_shown.Goals as goal

pub returns : goal.returns
returns c = live-tiles-shown
