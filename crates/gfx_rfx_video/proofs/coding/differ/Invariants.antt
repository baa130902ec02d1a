use Rattle.std.proofs.Common.{◌≡◌, ◌++◌, take, drop, pos}
use Rattle.gfx_dwt.specs.Ranges.{Within}
use Rattle.gfx_tile_make.specs.Planes.{differences}
use Rattle.gfx_tile_make.proofs.Differing.{last-of}
use Rattle.gfx_rfx_video.proofs.coding.differ.Given as goal

abbrev pub invariant-loop-place : goal.invariant-loop-place
invariant-loop-place l =
    (l.values ≡ differences (pos 0) (take l.place l.initial.values) ++ drop l.place l.initial.values)
    × (l.last ≡ last-of (pos 0) (take l.place l.initial.values))
    × Within 1024 l.last
