-- What a window holds: this project's own rule. What an acknowledgement's depth says is [MS-RDPEGFX] 2.2.2.13.
use Rattle.std.specs.Prelude.{ℕ, Bool, true, false, ◌||◌, List, [], ◌∷◌, ◌++◌, length, map, nat_le, nat_lt, ◌==◌, Option, Some, None, Result, Ok, Err, if◌then◌else◌}
use Rattle.std.specs.List.{last_or}
use Rattle.gfx_caps.specs.declared.message.TheConstants.{SUSPENDS}
use Rattle.gfx_window.specs.declared.window.AckUnknown.{AckUnknown}
use Rattle.gfx_window.specs.declared.window.Queued.{Queued}
use Rattle.gfx_window.specs.declared.window.Sent.{Sent}

-- the steps that wait for a frame, in the order in which they were queued, and the frames that were sent
-- and not acknowledged, the oldest first
pub record Window : Type 0 where
  pub size : ℕ
  pub pending : List Queued
  pub flying : List Sent
  -- acknowledgements are suspended: frames go unwatched
  pub suspended : Bool
  -- the last frame that went unwatched, or left the flight so; none up to it is watched
  pub unwatched : Option ℕ

-- a window for so many frames, in which nothing is
abbrev pub no_frames : ℕ → Window
no_frames size = record { size = size; pending = []; flying = []; suspended = false; unwatched = None }

abbrev pub with_pending : Window → List Queued → Window
with_pending window items = record window { pending = items }

-- there is room for a frame: of those that go unwatched, for any number
abbrev pub has_room : Window → Bool
has_room window = window.suspended || nat_lt (length window.flying) window.size

-- what is kept of frames that go now: nothing while acknowledgements are suspended
abbrev pub watched : {X : Type 0} → Bool → List X → List X
watched true frames = []
watched false frames = frames

-- the last frame that goes unwatched, with this one
abbrev pub unwatched_with : Bool → Option ℕ → ℕ → Option ℕ
unwatched_with true before frame = Some frame
unwatched_with false before frame = before

-- a frame went with all that waited: it is in flight, or unwatched
abbrev pub sent : Window → ℕ → ℕ → Window
sent window frame step = record window {
  pending = [];
  flying = window.flying ++ watched window.suspended (record { frame = frame; step = step } ∷ []);
  unwatched = unwatched_with window.suspended window.unwatched frame;
}

-- what an acknowledgement leaves in flight of these frames: all, or none where it suspends acknowledgements
abbrev pub left_flying : Bool → Window → List Sent → Window
left_flying true window flying =
    record window { flying = []; suspended = true; unwatched = last_or window.unwatched (map (λ one. one.frame) flying) }
left_flying false window flying = record window { flying = flying; suspended = false }

-- a frame isn't watched: it is none behind the last unwatched one
abbrev pub is_unwatched : Option ℕ → ℕ → Bool
is_unwatched None frame = false
is_unwatched (Some last) frame = nat_le frame last

-- the acknowledgement of a frame that isn't this, the oldest in flight: nothing is told of one that isn't watched
abbrev pub acknowledged_late : Window → Option ℕ → ℕ → ℕ → Result (Option ℕ × Window) AckUnknown
acknowledged_late window oldest depth frame =
    if is_unwatched window.unwatched frame then Ok (None, left_flying (depth == SUSPENDS) window window.flying)
    else Err (record { id = frame; oldest = oldest })

-- the acknowledgement of a frame, where these are in flight: the recorded step of the oldest, if the frame is that one,
-- and the window without it
unfoldable pub acknowledged : Window → List Sent → ℕ → ℕ → Result (Option ℕ × Window) AckUnknown
acknowledged window [] depth frame = acknowledged_late window None depth frame
acknowledged window (first ∷ others) depth frame =
    if first.frame == frame then Ok (Some first.step, left_flying (depth == SUSPENDS) window others)
    else acknowledged_late window (Some first.frame) depth frame
