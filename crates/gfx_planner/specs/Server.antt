-- What the server's end of the channel keeps between two messages ([MS-RDPEGFX] 3.2.1), and what it starts with.
use Rattle.std.specs.Prelude.{ℕ, Bool, List, []}
use Rattle.gfx_bitmap_cache.specs.Slots.{Entry}
use Rattle.gfx_import.specs.Started.{in_slots}
use Rattle.gfx_prog_live.specs.Live.{Passes, at_start as no_passes}
use Rattle.gfx_script.specs.Starting.{starts_of, stock_with}
use Rattle.gfx_slot_plan.specs.Plan.{Plan, plan}
use Rattle.gfx_state.specs.State.{State, started, started_with}

pub record Server : Type 0 where
  -- the state that its messages so far give, as its client has it
  pub state : State
  -- which keys have which slots
  pub plan : Plan
  -- the live tiles, which an improvement raises, and the numbers of the next messages of passes and of video
  pub passes : Passes
  -- how many frames were opened
  pub frames : ℕ

-- before the first message, in a state with bitmaps in the slots of their keys
abbrev pub server_from : State → Plan → Server
server_from state kept = record { state = state; plan = kept; passes = no_passes; frames = 0 }

-- before the first message, with no bitmap, under the small limits on bitmaps or the large ones
abbrev pub at_start : Bool → Server
at_start small = server_from (started small) (plan [] small)

-- before the first message, with bitmaps that both ends kept ([MS-RDPEGFX] 3.2.5.13): they are in slots 1, 2 and so on, and
-- the last is the most recently used
abbrev pub server_with : List Entry → Bool → Server
server_with entries small = server_from (started_with (in_slots entries) small) (stock_with (starts_of entries) small).plan
