use Rattle.gfx_planner.proofs.Streams.{shown}
use Rattle.gfx_planner.proofs.laws.streams_show_their_scripts.Goals as goal

pub returns : goal.returns
returns c = shown
