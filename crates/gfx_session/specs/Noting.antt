-- The frames that are noted as their acknowledgements are taken: a server's end notes them with what it kept of its own
-- states, and a session adds what it kept of its client's. `LiveEnd::take` names `Listens`; of the other
-- words no public clause names one.
use Rattle.std.specs.Prelude.{◌≡◌, ℕ, Bool, true, false, List, [], ◌∷◌, ◌++◌, length, map, Option, None, Result, Ok, Err}
use Rattle.gfx_schedule.specs.Hearing.{Heard, listening, hears}
use Rattle.gfx_schedule.specs.ServerEnd.{ScheduledEnd}
use Rattle.gfx_window.specs.declared.window.Sent.{Sent}
use Rattle.gfx_session.specs.Kept.{noted, Stands}
use Rattle.gfx_session.specs.Taking.{AnswersAs, PlansOn, TakesOpen, WhenHeard}
use Rattle.gfx_session.specs.declared.acked.Acked.{Acked}
use Rattle.gfx_session.specs.declared.digests.Digests.{Digests}
use Rattle.gfx_session.specs.declared.server_end.listening.ShownFrame.{ShownFrame}
use Rattle.gfx_session.specs.declared.server_end.ServerEnd.{ServerEnd}
use Rattle.gfx_session.specs.declared.server_end.ServerFault.{ServerFault}
use Rattle.gfx_session.specs.declared.server_end.ServerFault.TheVariants.{Closed}

-- frames whose acknowledgements were taken, each with what was kept of the server's state right after it
abbrev pub taken_of : List Sent → List (Option (List ℕ)) → List ShownFrame
taken_of (frame ∷ frames) (digest ∷ digests) =
    record { frame = frame.frame; step = frame.step; digest = digest } ∷ taken_of frames digests
taken_of frames digests = []

-- the frames that were acknowledged in what was heard are noted behind those that were noted, each with what was kept for it
abbrev pub Notes : Digests → List ShownFrame → List ShownFrame → Heard → Type 0
Notes digests had has heard = (has ≡ had ++ taken_of heard.taken (map (noted digests) heard.states)) × (length heard.states ≡ length heard.taken)

-- what an open server's end does that takes a piece and notes its frames
abbrev pub ListensOpen : Result (Unit {0}) ServerFault → ServerEnd → ServerEnd → List ℕ → List ℕ → List ShownFrame → List ShownFrame → List ℕ → Type 0
ListensOpen (Ok done) old new before now had has piece =
    WhenHeard old piece (λ heard. AnswersAs new before now heard × (heard.end.stopped ≡ None) × Notes new.digests had has heard)
ListensOpen (Err fault) old new before now had has piece = TakesOpen (Err fault) old new before now piece

-- what any does: one that is closed takes nothing and notes nothing, and an open one plans on
abbrev pub Listens : Bool → Result (Unit {0}) ServerFault → ServerEnd → ServerEnd → List ℕ → List ℕ → List ShownFrame → List ShownFrame → List ℕ → Type 0
Listens true result old new before now had has piece = (result ≡ Err Closed) × (new ≡ old) × (now ≡ before) × (has ≡ had)
Listens false result old new before now had has piece = PlansOn result old new × ListensOpen result old new before now had has piece

-- a server's end will not refuse these bytes
pub record WillHear (end : ServerEnd) (piece : List ℕ) : Type 0 where
  pub at : ScheduledEnd
  pub stands : Stands end at
  pub goes_on : at.stopped ≡ None
  pub will : (hears end.script (listening at) piece).end.stopped ≡ None

-- frames that were noted, each with what was kept of the client's state right after it
abbrev pub paired : List ShownFrame → List (Option (List ℕ)) → List Acked
paired (taken ∷ others) (client ∷ clients) =
    record { frame = taken.frame; step = taken.step; client = client; server = taken.digest } ∷ paired others clients
paired others clients = []
