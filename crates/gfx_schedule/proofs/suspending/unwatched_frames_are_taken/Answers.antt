use Rattle.gfx_schedule.proofs.Unwatched.{unwatched_is_taken, told_stays_told}
use Rattle.gfx_schedule.proofs.Suspended.{suspending_is_taken}
use Rattle.gfx_schedule.proofs.suspending.unwatched_frames_are_taken.Goals as goal

pub returns-clause-taken : goal.returns-clause-taken
returns-clause-taken c = unwatched_is_taken

pub returns-clause-told : goal.returns-clause-told
returns-clause-told c = told_stays_told

pub returns-clause-session : goal.returns-clause-session
returns-clause-session c = suspending_is_taken
