use Rattle.std.proofs.Common.{◌≡◌, ◌-◌, ◌≤◌, drop, map, take}
use Rattle.gfx_prog_live.specs.Inside.{OfPicture}
use Rattle.gfx_video_paint.specs.Video.{video_tile}
use Rattle.gfx_video_paint.proofs.tiles.video_tiles.Given as goal

-- the tiles of the squares so far are made
abbrev pub invariant-squares : goal.invariant-squares
invariant-squares l =
    (l.from ≤ l.place) × OfPicture l.script l.picture (λ drawing. l.tiles ≡ map (video_tile l.script.setting drawing) (take (l.place - l.from) (drop l.from l.squares)))
