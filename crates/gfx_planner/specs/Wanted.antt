-- What is to be seen and held after some of a script's steps, in the script's own words: no message is named here. This
-- project's own rule.
use Rattle.std.specs.Prelude.{Bool, []}
use Rattle.std.specs.Ordering.{nat_cmp}
use Rattle.std.specs.FinMap.{FinMap, empty}
use Rattle.gfx_bitmap_cache.specs.Slots.{Entry}
use Rattle.gfx_slot_plan.specs.Plan.{Plan, plan}
use Rattle.gfx_surface_map.specs.Shown.{Shown, nothing_shown}
use Rattle.gfx_prog_live.specs.Live.{Passes, at_start}

pub record Wanted : Type 0 where
  -- the surfaces, the output, and which surfaces are mapped to it
  pub shown : Shown
  -- which keys have bitmaps, and in which slots
  pub plan : Plan
  -- the bitmaps in their slots
  pub slots : FinMap nat_cmp Entry
  -- the live tiles, which an improvement raises, and the numbers of the next messages of passes and of video
  pub passes : Passes

-- before the first step: no surface, and these bitmaps in the slots of their keys
abbrev pub bitmaps_wanted : Plan → FinMap nat_cmp Entry → Wanted
bitmaps_wanted kept slots = record { shown = nothing_shown; plan = kept; slots = slots; passes = at_start }

-- before the first step: no surface and no bitmap, under the small limits on bitmaps or the large ones
abbrev pub nothing_wanted : Bool → Wanted
nothing_wanted small = bitmaps_wanted (plan [] small) empty
