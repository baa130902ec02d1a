-- What a session starts from: this project's own rule. Its two ends may have bitmaps before the first message, and may
-- have chosen a version.
use Rattle.std.specs.Prelude.{◌≡◌, Bool, true, false, None, List}
use Rattle.gfx_bitmap_cache.specs.Slots.{Entry}
use Rattle.gfx_import.specs.Agreed.{have_same_sides}
use Rattle.gfx_import.specs.Imported.{imported}
use Rattle.gfx_import.specs.Started.{in_slots, own}
use Rattle.gfx_planner.specs.Wanted.{Wanted, bitmaps_wanted, nothing_wanted}
use Rattle.gfx_planner.specs.Server.{Server, at_start, server_with}
use Rattle.gfx_planner.specs.Agree.{Agree}
use Rattle.gfx_planner.specs.Holds.{Holds}
use Rattle.gfx_script.specs.Checks.{Held, held_first, sides_of_all}
use Rattle.gfx_script.specs.Kinds.{KindedStep, Fits}
use Rattle.gfx_script.specs.Script.{IsAcceptedAtStart, IsAcceptedFrom, held_at_start}
use Rattle.gfx_script.specs.Scripted.{Script}
use Rattle.gfx_script.specs.Starting.{starts_of, stock_with}
use Rattle.gfx_state.specs.Alike.{Alike}
use Rattle.gfx_state.specs.State.{State, fresh, started_with}

pub record Start : Type 0 where
  -- what the server's end has, and what is wanted to be seen and kept before the first step
  pub server : Server
  pub wanted : Wanted
  -- what the first step of a script is checked against
  pub held : Held
  -- the client's state
  pub client : State
  -- a version is confirmed already, so that the client need not say which it offers
  pub confirmed : Bool

-- nothing was before it
abbrev pub from_nothing : Script → Start
from_nothing script = record {
  server = at_start script.small;
  wanted = nothing_wanted script.small;
  held = held_first (sides_of_all script.pictures) script.small;
  client = fresh;
  confirmed = false;
}

-- a start that the session of a script may have: what the server's end has is in step with the checks of the first step,
-- and shows what is wanted; no frame was opened; and where a version is to be confirmed, nothing was before it
pub record MayStart (script : Script) (start : Start) : Type 0 where
  pub holds : Holds script start.held start.server
  pub agrees : Agree start.server start.wanted
  pub closed : start.server.state.frame ≡ None
  pub frames : start.server.frames ≡ 0
  pub greets : start.confirmed ≡ false → start.server ≡ at_start script.small

-- the session of a script may begin so, whose steps go as these kinds: its first step is checked against what is held, and
-- the client's state is the server's but for pixels, and for limits that may be wider
pub record MayBegin (start : Start) (script : Script) (kinded : List KindedStep) : Type 0 where
  pub accepted : IsAcceptedFrom start.held script
  pub fits : Fits kinded script.steps
  pub may : MayStart script start
  pub alike : Alike start.server.state start.client

-- bitmaps that both ends kept ([MS-RDPEGFX] 3.2.5.13): what is imported of the server's file and the client's is in slots 1,
-- 2 and so on, at each end its own bitmaps, and the version is confirmed
abbrev pub from_kept : Script → List Entry → List Entry → Start
from_kept script server client = record {
  server = server_with (imported server client script.small) script.small;
  wanted = bitmaps_wanted (stock_with (starts_of (imported server client script.small)) script.small).plan (in_slots (imported server client script.small));
  held = held_at_start script;
  client = started_with (in_slots (own server client script.small)) script.small;
  confirmed = true;
}

-- a script was read with these two files, of which it starts with what is imported; and each of these bitmaps has the same
-- sides at both ends
pub record MayImport (script : Script) (server client : List Entry) : Type 0 where
  pub accepted : IsAcceptedAtStart script
  pub start : script.start ≡ starts_of (imported server client script.small)
  pub sides : have_same_sides server client script.small ≡ true
