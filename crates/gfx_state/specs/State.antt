-- What both ends keep of the graphics channel ([MS-RDPEGFX] 3.2.1 and 3.3.1).
use Rattle.std.specs.Prelude.{ℕ, Bool, false, Option, None}
use Rattle.std.specs.Ordering.{nat_cmp}
use Rattle.std.specs.FinMap as finmap
use Rattle.std.specs.FinMap.{FinMap}
use Rattle.gfx_bitmap_cache.specs.Slots.{Entry, Cached, cached}
use Rattle.gfx_clear.specs.State.{ClearState, fresh as nothing_decoded}
use Rattle.gfx_prog_decode.specs.Records.{Records}
use Rattle.gfx_surface_map.specs.Shown.{Shown, nothing_shown}

pub record State : Type 0 where
  -- the surfaces by their ids, the output, and what is mapped to it
  pub shown : Shown
  -- the bitmaps by their slots, and whether the small limits bind the stores
  pub cache : Cached
  -- what ClearCodec streams left for later ones
  pub clear : ClearState
  -- the records of tiles that progressive messages left for later ones
  pub records : Records
  -- the frame that has started and not ended
  pub frame : Option ℕ
  -- how many frames have ended, modulo 2^32
  pub decoded : ℕ

-- the state at a start with these bitmaps in their slots, where this says whether the small limits bind the stores
abbrev pub started_with : FinMap nat_cmp Entry → Bool → State
started_with slots small = record { shown = nothing_shown; cache = cached slots small; clear = nothing_decoded; records = finmap.empty; frame = None; decoded = 0 }

-- the same with no bitmap
abbrev pub started : Bool → State
started small = started_with finmap.empty small

-- the state at the start of a stream: the large limits bind the stores
abbrev pub fresh : State
fresh = started false
