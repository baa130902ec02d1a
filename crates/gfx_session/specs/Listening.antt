-- What a server's end does with its client's messages, one after another, while it takes a piece. No public clause names
-- these words.
use Rattle.std.specs.Prelude.{◌≡◌, ◌≤◌, ◌+◌, ℕ, List, [], ◌∷◌, ◌++◌, length, map, Option, Some, None, Result, Ok, Err}
use Rattle.gfx_schedule.specs.Hearing.{Heard}
use Rattle.gfx_segment.specs.Framing.{Short, front, holding}
use Rattle.gfx_window.specs.declared.window.Sent.{Sent}
use Rattle.gfx_session.specs.Kept.{noted, PlansAsBefore}
use Rattle.gfx_session.specs.Noting.{taken_of}
use Rattle.gfx_session.specs.Taking.{AnswersSome, IsWhyStopped, WhenHeard}
use Rattle.gfx_session.specs.declared.server_end.listening.ShownFrame.{ShownFrame}
use Rattle.gfx_session.specs.declared.server_end.ServerEnd.{ServerEnd}
use Rattle.gfx_session.specs.declared.server_end.ServerFault.{ServerFault}
use Rattle.gfx_session.specs.declared.server_end.ServerFault.TheVariants.{Memory, Closed}

-- in the midst of a piece a server's end hears as the schedule's end does that has heard so much, but for the bytes that
-- are held and whether it goes on. Since then so much was put out, and these frames were noted
pub record Amid (before now : List ℕ) (had has : List ShownFrame) (end : ServerEnd) (heard : Heard) : Type 0 where
  pub window : end.window ≡ heard.end.window
  pub ends : end.ends.items ≡ map (noted end.digests) heard.end.ends
  pub even : length heard.end.ends ≡ length heard.end.window.flying
  pub confirmed : end.confirmed ≡ heard.end.confirmed
  pub out : now ≡ before ++ heard.out
  pub taken : has ≡ had ++ taken_of heard.taken (map (noted end.digests) heard.states)
  pub paired : length heard.states ≡ length heard.taken

-- no message changes what is planned, and none notes more frames than leave the window
pub record LeavesPlan (old new : ServerEnd) (had has : List ShownFrame) : Type 0 where
  pub plans : PlansAsBefore old new
  pub few : length has + length new.window.flying ≤ length had + length old.window.flying

-- what is told of an acknowledged frame: its recorded step, if it was in flight
abbrev pub told_of : ℕ → Option ℕ → List Sent
told_of frame None = []
told_of frame (Some step) = record { frame = frame; step = step } ∷ []

-- a message does to a server's end what this does to what was heard. A fault is why the schedule's end has stopped by
-- then; without memory nothing is put out
abbrev pub Obeys : Result (Unit {0}) ServerFault → ServerEnd → ServerEnd → List ℕ → List ℕ → List ShownFrame → List ShownFrame → (Heard → Heard) → Type 0
Obeys (Ok done) old new now later has more due =
    (before : List ℕ) (had : List ShownFrame) (heard : Heard) → Amid before now had has old heard
    → Amid before later had more new (due heard) × ((due heard).end.stopped ≡ heard.end.stopped) × ((due heard).end.heard ≡ heard.end.heard)
Obeys (Err Memory) old new now later has more due = later ≡ now
Obeys (Err Closed) old new now later has more due = ⊥
Obeys (Err fault) old new now later has more due =
    (before : List ℕ) (had : List ShownFrame) (heard : Heard) → Amid before now had has old heard
    → Amid before later had more new (due heard) × IsWhyStopped fault (due heard).end.stopped

-- all messages of a piece do what the schedule says of them, and bytes are held then that are no whole message. A fault
-- is why the schedule's end has stopped; without memory a whole number of messages was answered
abbrev pub Hears : Result (Unit {0}) ServerFault → ServerEnd → ServerEnd → List ℕ → List ℕ → List ShownFrame → List ShownFrame → List ℕ → Type 0
Hears (Ok done) old new before now had has piece =
    WhenHeard old piece
    (λ heard. Amid before now had has new heard × (heard.end.stopped ≡ None) × (new.splitter ≡ holding heard.end.heard) × (front heard.end.heard ≡ Short))
Hears (Err Memory) old new before now had has piece = AnswersSome old before now piece
Hears (Err Closed) old new before now had has piece = ⊥
Hears (Err fault) old new before now had has piece =
    WhenHeard old piece (λ heard. Amid before now had has new heard × IsWhyStopped fault heard.end.stopped)
