use Rattle.gfx_planner.proofs.Joined.{joined_frames_are_shown}
use Rattle.gfx_planner.proofs.laws.joined_frames_are_shown.Goals as goal

pub returns : goal.returns
returns c = joined_frames_are_shown
