use Rattle.std.proofs.Common.{◌-◌, length}
use Rattle.gfx_chooser.specs.Seen.{seen}
use Rattle.gfx_session.specs.Session.{script_of}
use Rattle.gfxpipe.proofs.Sessions.{Turning}
use Rattle.gfxpipe.proofs.session.take_turns.Given as goal

abbrev pub invariant-turns : goal.invariant-turns
invariant-turns g l =
    Turning l.fn.session (seen g.C.Chooser.reply g.C.Chooser.is_spent l.fn.choosers.items) (seen g.C.Chooser.reply g.C.Chooser.is_spent l.choosers.items) l.at l.session

abbrev pub decreases-turns : goal.decreases-turns
decreases-turns g l = length (script_of l.fn.session).turns - l.at
