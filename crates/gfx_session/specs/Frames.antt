-- How a server's end sends all that waits as one frame: when it may, what goes, and what is in flight then. No public
-- clause names these words.
use Rattle.std.specs.Prelude.{◌≡◌, ◌<◌, ◌+◌, ℕ, Bool, true, false, List, [], ◌∷◌, ◌++◌, map, None, IsSome, Result, Ok, Err}
use Rattle.std.specs.List.{AllByRecursion}
use Rattle.gfx_base.specs.declared.answer.NoMemory.{NoMemory}
use Rattle.gfx_planner.specs.Server.{Server}
use Rattle.gfx_planner.specs.Holds.{Holds}
use Rattle.gfx_planner.specs.Planned.{Planned, PutsFront, AllSent, ready}
use Rattle.gfx_planner.specs.Joined.{frame_of, after_frame}
use Rattle.gfx_planner.specs.declared.planner.TheConstants.{MOST_FRAMES}
use Rattle.gfx_schedule.specs.Leaving.{kept, step_of, steps_of}
use Rattle.gfx_schedule.specs.ServerEnd.{may_send}
use Rattle.gfx_script.specs.Checks.{Held, held_through}
use Rattle.gfx_script.specs.Kinds.{KindedStep, HasKind}
use Rattle.gfx_script.specs.Script.{IsStep}
use Rattle.gfx_script.specs.Scripted.{Script}
use Rattle.gfx_session.specs.Kept.{noted}
use Rattle.gfx_session.specs.declared.server_end.ServerEnd.{ServerEnd}
use Rattle.gfx_state.specs.Sending.{sent}
use Rattle.gfx_window.specs.Window.{Window, watched}
use Rattle.gfx_window.specs.Window.{sent as with_frame}

-- the steps of a frame of all that waits: those that no later one covers
abbrev pub due_of : Script → Window → List KindedStep
due_of script window = steps_of script (kept script window.pending)

-- the bytes of that frame, as a server's end would send it now
abbrev pub frame_due : ServerEnd → List ℕ
frame_due end = sent (frame_of end.script end.planner.server (due_of end.script end.window))

-- steps may be put one after another: their numbers are within their ranges, their kinds are such as they
-- may go as, and the checks of each hold on what those before it leave of what the server's end has
pub record MayPut (script : Script) (server : Server) (steps : List KindedStep) : Type 0 where
  pub numbers : AllByRecursion IsStep (map (λ one. one.step) steps)
  pub kinds : AllByRecursion HasKind steps
  pub held : Held
  pub holds : Holds script held server
  pub after : Held
  pub checked : held_through held (map (λ one. one.step) steps) ≡ Ok after

-- a frame of all that waits may be opened, and each item that waits is a step of the script
pub record MayFrame (script : Script) (server : Server) (window : Window) : Type 0 where
  pub few : server.frames < MOST_FRAMES
  pub between : server.state.frame ≡ None
  pub there : AllByRecursion (λ item. IsSome (step_of script item)) window.pending
  pub may : MayPut script server (due_of script window)

-- a frame of these steps is put out, and its id is answered. Without memory a front of it is
abbrev pub PutsFrame : Result ℕ NoMemory → Script → List KindedStep → Server → Planned → List ℕ → List ℕ → Type 0
PutsFrame (Ok frame) script steps server new before now =
    (frame ≡ server.frames + 1) × AllSent new before now (frame_of script server steps) (after_frame script server steps)
PutsFrame (Err e) script steps server new before now = PutsFront before now (sent (frame_of script server steps))

-- a frame of all that waited is in flight, or unwatched where acknowledgements are suspended, and the planner has what
-- the server then has
pub record Flies (old new : ServerEnd) (server : Server) : Type 0 where
  pub script : new.script ≡ old.script
  pub last : new.last ≡ old.last
  pub window : new.window ≡ with_frame old.window (old.planner.server.frames + 1) old.last
  pub planned : new.planner ≡ ready server
  pub ends : new.ends.items ≡ old.ends.items ++ watched old.window.suspended (noted old.digests server.state ∷ [])
  pub digests : new.digests ≡ old.digests
  pub confirmed : new.confirmed ≡ old.confirmed
  pub closed : new.closed ≡ old.closed
  pub splitter : new.splitter ≡ old.splitter
  pub spent : new.spent ≡ old.spent

-- nothing has changed of what a server's end hears its client by
pub record HearsAsBefore (old new : ServerEnd) : Type 0 where
  pub window : new.window ≡ old.window
  pub ends : new.ends.items ≡ old.ends.items
  pub digests : new.digests ≡ old.digests
  pub confirmed : new.confirmed ≡ old.confirmed
  pub closed : new.closed ≡ old.closed
  pub splitter : new.splitter ≡ old.splitter

-- a frame that went is noted with what is kept of the state right after it. Without memory nothing has changed
abbrev pub WatchesFrame : Result (Unit {0}) NoMemory → ServerEnd → ServerEnd → ℕ → Type 0
WatchesFrame (Ok done) old new frame =
    (new ≡ record old { window = new.window; ends = new.ends }) × (new.window ≡ with_frame old.window frame old.last)
    × (new.ends.items ≡ old.ends.items ++ watched old.window.suspended (noted old.digests old.planner.server.state ∷ []))
WatchesFrame (Err e) old new frame = (new ≡ record old { ends = new.ends }) × (new.ends.items ≡ old.ends.items)

-- the frame goes where one can, and whether it did is told. Without memory a front of it is put out, and no frame is in
-- flight for it
abbrev pub SendsFrame : Result Bool NoMemory → ServerEnd → ServerEnd → List ℕ → List ℕ → Type 0
SendsFrame (Ok true) old new before now =
    (may_send old.confirmed old.window ≡ true) × Flies old new (after_frame old.script old.planner.server (due_of old.script old.window)) × (now ≡ before ++ frame_due old)
SendsFrame (Ok false) old new before now = (may_send old.confirmed old.window ≡ false) × (new ≡ old) × (now ≡ before)
SendsFrame (Err e) old new before now =
    (may_send old.confirmed old.window ≡ true) × (new.script ≡ old.script) × (new.spent ≡ old.spent) × PutsFront before now (frame_due old) × HearsAsBefore old new
