use Rattle.std.proofs.Common.{◌≡◌, ◌-◌}
use Rattle.gfx_layout.specs.Reading.{take_each}
use Rattle.gfx_layout.proofs.EachLoops.{with_others}
use Rattle.gfx_rfx_video.specs.BlockReading.{due_tile}
use Rattle.gfx_rfx_video.proofs.tile_reading.read_each.Given as goal

abbrev pub invariant-tiles : goal.invariant-tiles
invariant-tiles l = with_others due_tile l.tiles (l.count - l.counter) l.fields ≡ take_each due_tile l.count l.initial.fields
