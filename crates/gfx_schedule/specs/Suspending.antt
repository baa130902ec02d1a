-- A client that suspends its acknowledgements ([MS-RDPEGFX] 2.2.2.13) and goes on with them all the same: this project's
-- own promise.
use Rattle.std.specs.Prelude.{◌≡◌, ℕ, ◌≤◌, ◌<◌, ◌^◌, ◌+◌, ◌-◌, ◌==◌, nat_lt, Bool, true, false, List, [], ◌∷◌, ◌++◌, fold, length, None, Some}
use Rattle.gfx_caps.specs.declared.message.ClientPdu.TheVariants.{Ack}
use Rattle.gfx_caps.specs.declared.message.TheConstants.{SUSPENDS}
use Rattle.gfx_caps.specs.Spelling.{Fits}
use Rattle.gfx_client.specs.Replies.{alone}
use Rattle.gfx_script.specs.Kinds.{KindedStep}
use Rattle.gfx_script.specs.Scripted.{Script}
use Rattle.gfx_script.specs.declared.turn.Turn.{Turn}
use Rattle.gfx_window.specs.declared.window.Sent.{Sent}
use Rattle.gfx_schedule.specs.Hearing.{Heard, listening, hears}
use Rattle.gfx_schedule.specs.ServerEnd.{ScheduledEnd, serves}
use Rattle.gfx_schedule.specs.Starts.{MayBegin, Start}
use Rattle.gfx_schedule.specs.World.{World, world_from}

-- a server's end goes on, between two messages of its client, and no frame up to this one is watched
pub record Unwatches (end : ScheduledEnd) (last : ℕ) : Type 0 where
  pub goes_on : end.stopped ≡ None
  pub between : end.heard ≡ []
  pub unwatched : end.window.unwatched ≡ Some last

-- a frame is the oldest of these
abbrev pub is_oldest : List Sent → ℕ → Bool
is_oldest [] frame = false
is_oldest (first ∷ others) frame = first.frame == frame

-- it has heard an acknowledgement of a frame: it goes on, has answered nothing, and tells of no frame but the oldest in
-- flight
pub record IsTakenBy (end : ScheduledEnd) (frame : ℕ) (heard : Heard) : Type 0 where
  pub goes_on : heard.end.stopped ≡ None
  pub between : heard.end.heard ≡ []
  pub silent : heard.out ≡ []
  pub untold : is_oldest end.window.flying frame ≡ false → heard.taken ≡ []

-- so it takes every acknowledgement of a frame that isn't watched, at whatever depth
abbrev pub UnwatchedIsTaken : Type 0
UnwatchedIsTaken =
    (script : Script) (end : ScheduledEnd) (last depth frame total : ℕ) → Unwatches end last → frame ≤ last → Fits (Ack depth frame total)
    → IsTakenBy end frame (hears script (listening end) (alone (Ack depth frame total)))

-- whatever a server's end hears, what it told of before stays told
abbrev pub ToldStaysTold : Type 0
ToldStaysTold = (script : Script) (heard : Heard) (bytes : List ℕ) → (more : List Sent) × ((hears script heard bytes).taken ≡ heard.taken ++ more)

-- ---- a client that suspends them in a session

-- what happens from then on: the server's end takes a turn, or the client acknowledges its next frame, by which so many
-- are decoded
pub data Happening : Type 0 where
  Serves : Happening
  Answers : (total : ℕ) → total < 2 ^ 32 → Happening

-- the server's end, and the last frame that the client has acknowledged
pub record Suspending : Type 0 where
  pub end : ScheduledEnd
  pub answered : ℕ

-- the next frame is acknowledged, if it was sent, and suspends acknowledgements, as each does
abbrev pub answers : Script → Suspending → ℕ → Bool → Suspending
answers script at total false = at
answers script at total true =
    record { end = (hears script (listening at.end) (alone (Ack SUSPENDS (at.answered + 1) total))).end; answered = at.answered + 1 }

unfoldable pub happens_then : Script → Suspending → Happening → Suspending
happens_then script at Serves = record at { end = serves script at.end }
happens_then script at (Answers total fits) = answers script at total (nat_lt at.answered at.end.server.frames)

-- a session's server's end, whose client has acknowledged all frames but those in flight
abbrev pub suspending : World → Suspending
suspending w = record { end = w.server; answered = w.server.server.frames - length w.server.window.flying }

-- from each session after some turns in which the server's end has taken all that its client said: if the client
-- suspends its acknowledgements and acknowledges each frame in its order all the same, it is refused nothing
abbrev pub SuspendingIsTaken : Type 0
SuspendingIsTaken =
    (start : Start) (script : Script) (kinded : List KindedStep) (turns : List Turn) (more : List Happening) → MayBegin start script kinded
    → (world_from start script kinded turns).up ≡ []
    → (fold (happens_then script) (suspending (world_from start script kinded turns)) more).end.stopped ≡ None
