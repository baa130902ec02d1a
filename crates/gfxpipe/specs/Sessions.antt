-- The session of a script, from its first turn to its end, and what is printed of it: this project's own
-- rule.
use Rattle.std.specs.Prelude.{◌≡◌, ℕ, List, [], length, Option, Some, None, IsSome, Result, Ok, Err}
use Rattle.std.specs.List.{AllByRecursion, flat_map, last_or}
use Rattle.gfx_base.specs.Stream.{Change, Gains, FailsAfter}
use Rattle.gfx_base.specs.declared.answer.NoMemory.{NoMemory}
use Rattle.gfx_chooser.specs.Choosing.{Chooser, AreAlike}
use Rattle.gfx_chooser.specs.Kinded.{kinded_steps, left_of}
use Rattle.gfx_report.specs.Texts.{ack_line, trial_line}
use Rattle.gfx_schedule.specs.Schedule.{rounds_for}
use Rattle.gfx_schedule.specs.Starts.{MayBegin, Start, from_nothing}
use Rattle.gfx_schedule.specs.World.{World, Acknowledged, begin_from, world_from, drained}
use Rattle.gfx_script.specs.Kinds.{KindedStep, Fits}
use Rattle.gfx_script.specs.Scripted.{Script}
use Rattle.gfx_session.specs.Kept.{digest_in}
use Rattle.gfx_session.specs.Session.{Stands, digests_of, script_of}
use Rattle.gfx_session.specs.declared.acked.Acked.{Acked}
use Rattle.gfx_session.specs.declared.digests.Digests.TheVariants.{On}
use Rattle.gfx_session.specs.declared.session.Session.{Session}
use Rattle.gfxpipe.specs.declared.ending.Ending.{Ending}
use Rattle.gfxpipe.specs.declared.ending.Ending.TheVariants.{Done}
use Rattle.gfxpipe.specs.declared.trouble.Trouble.{Trouble}
use Rattle.gfxpipe.specs.declared.trouble.Trouble.TheVariants as trouble

-- a script, and what its session starts from
pub record Beginning : Type 0 where
  pub start : Start
  pub script : Script

abbrev pub beginning : Start → Script → Beginning
beginning start script = record { start = start; script = script }

-- the same from nothing
abbrev pub from_scratch : Script → Beginning
from_scratch script = beginning (from_nothing script) script

-- the session of a script, whose paints that name no kind go as these choosers choose: all its turns, then rounds
-- until it is ended
unfoldable pub whole_session : List Chooser → Beginning → World
whole_session choosers b = drained b.script (rounds_for b.script) (world_from b.start b.script (kinded_steps b.script choosers) b.script.turns)

-- the line of an acknowledged frame, with the digests of the client's and the server's state right after it
abbrev pub ack_text : Acknowledged → List ℕ
ack_text ack = ack_line ack.frame ack.step (digest_in ack.client) (digest_in ack.server)

-- what is printed of a session: a line for each acknowledged frame, in order
unfoldable pub session_text : List Chooser → Beginning → List ℕ
session_text choosers b = flat_map ack_text (whole_session choosers b).acks

-- the line of a trial of a number: how many frames were acknowledged, and the last of them; none where none was
abbrev pub trial_of : ℕ → ℕ → Option Acknowledged → List ℕ
trial_of number count None = []
trial_of number count (Some ack) = trial_line number count ack.step (digest_in ack.client) (digest_in ack.server)

-- what is printed of a trial
unfoldable pub trial_text : ℕ → List Chooser → Beginning → List ℕ
trial_text number choosers b =
    trial_of number (length (whole_session choosers b).acks) (last_or None (whole_session choosers b).acks)

-- a session begins so, whatever kinds its steps will go as
pub record IsBegun (session : Session) (start : Start) : Type 0 where
  pub stands : (kinded : List KindedStep) → Fits kinded (script_of session).steps → Stands session (begin_from start (script_of session) kinded)
  pub begins : (kinded : List KindedStep) → Fits kinded (script_of session).steps → MayBegin start (script_of session) kinded

-- an acknowledged frame as a session keeps it has both digests
abbrev pub HasDigests : Acked → Type 0
HasDigests acked = IsSome acked.client × IsSome acked.server

-- a line of two digests, where both are there
abbrev pub told_line : (List ℕ → List ℕ → List ℕ) → Option (List ℕ) → Option (List ℕ) → List ℕ
told_line line (Some client) (Some server) = line client server
told_line line client server = []

-- the line of an acknowledged frame as a session keeps it
abbrev pub acked_line : Acked → List ℕ
acked_line acked = told_line (ack_line acked.frame acked.step) acked.client acked.server

-- the digests of a session are on, and each of its acknowledged frames has them
pub record HasAllDigests (session : Session) : Type 0 where
  pub on : digests_of session ≡ On
  pub acks : AllByRecursion HasDigests session.acks

-- a session is that of a script and its start, at its end
abbrev pub IsWhole : Option Session → List Chooser → Beginning → Type 0
IsWhole None choosers b = ⊥
IsWhole (Some session) choosers b = (script_of session ≡ b.script) × Stands session (whole_session choosers b)

-- a session was played to its end, whatever it began with; and what is left of the choosers that were asked
pub record HasPlayed (old new : Session) (choosers left : List Chooser) : Type 0 where
  pub whole : (start : Start) → IsBegun old start → IsWhole (Some new) choosers (beginning start (script_of old))
  pub leaves : AreAlike left (left_of (script_of old) choosers)
  pub digests : digests_of old ≡ On → HasAllDigests new

abbrev pub Plays : Result Session NoMemory → Session → List Chooser → List Chooser → Type 0
Plays (Ok new) old choosers left = HasPlayed old new choosers left
Plays (Err e) old choosers left = Unit {0}

-- and then writing its lines
abbrev pub PlaysOut : Result Session Trouble → Session → List Chooser → List Chooser → Change → Type 0
PlaysOut (Ok new) old choosers left o =
    HasPlayed old new choosers left × ((start : Start) → IsBegun old start → Gains o (session_text choosers (beginning start (script_of old))))
PlaysOut (Err trouble.Write) old choosers left o = (start : Start) → IsBegun old start → FailsAfter o (session_text choosers (beginning start (script_of old)))
PlaysOut (Err trouble.Memory) old choosers left o = Gains o []
PlaysOut (Err trouble.Read) old choosers left o = ⊥

-- the session that a command answers which plays what was found: the whole one where it is done, else none
abbrev pub AnswersOf : Result Beginning Ending → Result Ending Trouble → List Chooser → Option Session → Type 0
AnswersOf found (Ok Done) choosers answered = (b : Beginning) × (found ≡ Ok b) × IsWhole answered choosers b
AnswersOf found other choosers answered = answered ≡ None
