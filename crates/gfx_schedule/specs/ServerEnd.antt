-- The server's end of a session: the steps that wait, the frames in flight, and what a turn does. How
-- frames are joined, and which steps are left out of one, is this project's own rule.
use Rattle.std.specs.Prelude.{ℕ, ◌+◌, Bool, ◌&&◌, not, ◌==◌, List, [], ◌∷◌, ◌++◌, length, Option, None, if◌then◌else◌}
use Rattle.gfx_base.specs.declared.refusal.Refusal.{Refusal}
use Rattle.gfx_planner.specs.Server.{Server}
use Rattle.gfx_planner.specs.Joined.{frame_of, after_frame}
use Rattle.gfx_script.specs.Kinds.{KindedStep}
use Rattle.gfx_script.specs.Script.{is_frame}
use Rattle.gfx_script.specs.Scripted.{Script}
use Rattle.gfx_state.specs.Sending.{sent}
use Rattle.gfx_state.specs.State.{State}
use Rattle.gfx_window.specs.declared.window.AckUnknown.{AckUnknown}
use Rattle.gfx_window.specs.declared.window.Queued.{Queued}
use Rattle.gfx_window.specs.Window.{Window, no_frames, with_pending, has_room, watched}
use Rattle.gfx_window.specs.Window.{sent as with_frame}
use Rattle.gfx_schedule.specs.Leaving.{kept, steps_of}
use Rattle.gfx_schedule.specs.Starts.{Start, from_nothing}

-- why a server's end listens no more to its client
pub data Stop : Type 0 where
  -- a message is refused
  Refused : Refusal → Stop
  -- an acknowledgement is of a frame that is watched and isn't the oldest in flight
  Unknown : AckUnknown → Stop

pub record ScheduledEnd : Type 0 where
  -- the steps that aren't queued yet, each with the kind that it goes as
  pub left : List KindedStep
  -- the number of the last step that was queued, counted from 1; 0 before the first
  pub last : ℕ
  -- the steps that wait, and the frames in flight
  pub window : Window
  -- what it has sent, as a state
  pub server : Server
  -- the states right after the frames in flight, the oldest first
  pub ends : List State
  -- the client's version is confirmed
  pub confirmed : Bool
  -- the client's bytes that aren't a whole message yet
  pub heard : List ℕ
  pub stopped : Option Stop

-- nothing is queued yet, of steps that go as these kinds
abbrev pub server_end_from : Start → Script → List KindedStep → ScheduledEnd
server_end_from start script kinded = record {
  left = kinded;
  last = 0;
  window = no_frames script.window;
  server = start.server;
  ends = [];
  confirmed = start.confirmed;
  heard = [];
  stopped = None;
}

abbrev pub server_at_start : Script → List KindedStep → ScheduledEnd
server_at_start script kinded = server_end_from (from_nothing script) script kinded

-- the steps of the first script frame, up to and including the step of the word `frame`, and those behind it
abbrev pub first_frame : List KindedStep → List KindedStep
first_frame [] = []
first_frame (one ∷ more) = one ∷ (if is_frame one.step then [] else first_frame more)

abbrev pub behind_frame : List KindedStep → List KindedStep
behind_frame [] = []
behind_frame (one ∷ more) = if is_frame one.step then more else behind_frame more

-- steps as items, their numbers counted on from this one
abbrev pub numbered : ℕ → List KindedStep → List Queued
numbered at [] = []
numbered at (one ∷ more) = record { step = at; kind = one.kind } ∷ numbered (at + 1) more

-- the next script frame is queued, where there is one
unfoldable pub queued : ScheduledEnd → ScheduledEnd
queued end = record end {
  left = behind_frame end.left;
  last = end.last + length (first_frame end.left);
  window = with_pending end.window (end.window.pending ++ numbered (end.last + 1) (first_frame end.left));
}

-- there is no item in this list
abbrev pub is_none : {X : Type 0} → List X → Bool
is_none items = length items == 0

-- a frame can go: the version is confirmed, a step waits, and the window has room
abbrev pub may_send : Bool → Window → Bool
may_send confirmed window = confirmed && (not (is_none window.pending) && has_room window)

abbrev pub can_send : ScheduledEnd → Bool
can_send end = may_send end.confirmed end.window

-- the steps of the frame that goes then: those that wait without exactly those that a later one covers
abbrev pub due : Script → ScheduledEnd → List KindedStep
due script end = steps_of script (kept script end.window.pending)

-- that frame is in flight, or unwatched where acknowledgements are suspended
unfoldable pub with_sent : ScheduledEnd → Server → ScheduledEnd
with_sent end server = record end {
  window = with_frame end.window server.frames end.last;
  server = server;
  ends = end.ends ++ watched end.window.suspended (server.state ∷ []);
}

unfoldable pub sends : Script → ScheduledEnd → ScheduledEnd
sends script end = if can_send end then with_sent end (after_frame script end.server (due script end)) else end

-- the bytes of that frame
unfoldable pub bytes_sent : Script → ScheduledEnd → List ℕ
bytes_sent script end = if can_send end then sent (frame_of script end.server (due script end)) else []

-- a turn: the next script frame is queued, and then all that waits goes as one frame, where it can
abbrev pub serves : Script → ScheduledEnd → ScheduledEnd
serves script end = sends script (queued end)

-- what a turn puts out
abbrev pub serving : Script → ScheduledEnd → List ℕ
serving script end = bytes_sent script (queued end)

-- a turn does something
abbrev pub can_serve : ScheduledEnd → Bool
can_serve end = not (is_none end.left && not (can_send (queued end)))

-- all of the script was queued, sent and acknowledged
abbrev pub has_served : ScheduledEnd → Bool
has_served end = is_none end.left && (is_none end.window.pending && is_none end.window.flying)
