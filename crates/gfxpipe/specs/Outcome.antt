-- A command's outcome in two parts: how it ended, and the session that is answered.
use Rattle.std.specs.Prelude.{Option, None, Result, Ok, Err}
use Rattle.gfx_session.specs.declared.session.Session.{Session}
use Rattle.gfxpipe.specs.declared.ending.Ending.{Ending}
use Rattle.gfxpipe.specs.declared.outcome.Outcome.{Outcome}
use Rattle.gfxpipe.specs.declared.trouble.Trouble.{Trouble}

abbrev pub ended_of : Result Outcome Trouble → Result Ending Trouble
ended_of (Ok outcome) = Ok outcome.ending
ended_of (Err t) = Err t

abbrev pub session_of : Result Outcome Trouble → Option Session
session_of (Ok outcome) = outcome.session
session_of (Err t) = None
