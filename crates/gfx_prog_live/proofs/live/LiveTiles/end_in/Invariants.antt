use Rattle.std.proofs.Common.{◌≡◌, take}
use Rattle.gfx_prog_live.proofs.Ending.{without_cells}
use Rattle.gfx_prog_live.proofs.live.LiveTiles.end_in.Given as goal

-- the tiles of the cells so far are ended
abbrev pub invariant-cells : goal.invariant-cells
invariant-cells l = l.self ≡ without_cells l.id (take l.place l.cells) l.initial.self
