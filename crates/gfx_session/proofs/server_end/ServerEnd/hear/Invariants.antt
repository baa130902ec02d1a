use Rattle.std.proofs.Common.{◌≡◌, length}
use Rattle.gfx_schedule.specs.ServerEnd.{ScheduledEnd}
use Rattle.gfx_session.specs.Kept.{ListensAs}
use Rattle.gfx_session.specs.Listening.{LeavesPlan}
use Rattle.gfx_session.proofs.Midway.{Midway}
use Rattle.gfx_session.proofs.server_end.ServerEnd.hear.Given as goal

abbrev pub invariant-messages : goal.invariant-messages
invariant-messages l =
    ((at : ScheduledEnd) → ListensAs l.fn.self at → Midway l.fn.self.script at l.fn.piece l.fn.out l.out l.fn.taken.items l.taken.items l.self)
    × LeavesPlan l.fn.self l.self l.fn.taken.items l.taken.items × (l.self.closed ≡ l.fn.self.closed)

abbrev pub decreases-messages : goal.decreases-messages
decreases-messages l = length l.self.splitter.rest
