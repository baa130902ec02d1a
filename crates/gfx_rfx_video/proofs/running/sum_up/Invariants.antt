use Rattle.std.proofs.Common.{◌≡◌, ◌*◌, ◌++◌, take, drop, pos}
use Rattle.gfx_dwt.specs.Ranges.{Within}
use Rattle.gfx_tile_state.specs.Passes.{running}
use Rattle.gfx_tile_state.proofs.Running.{total}
use Rattle.gfx_rfx_video.proofs.running.sum_up.Given as goal

abbrev pub invariant-loop-place : goal.invariant-loop-place
invariant-loop-place l =
    (l.values ≡ running (pos 0) (take l.place l.initial.values) ++ drop l.place l.initial.values)
    × (l.total ≡ total (pos 0) (take l.place l.initial.values))
    × Within (32767 * l.place) l.total
