use Rattle.std.proofs.Common.{◌≡◌, map, take}
use Rattle.gfx_prog_live.specs.Inside.{OfPicture}
use Rattle.gfx_prog_live.specs.Live.{send_of}
use Rattle.gfx_prog_live.proofs.tiles.painted_sends.Given as goal

-- the tiles of the cells so far are made
abbrev pub invariant-cells : goal.invariant-cells
invariant-cells l = OfPicture l.script l.picture (λ drawing. l.sends.items ≡ map (send_of l.script l.live l.id drawing l.rect) (take l.place l.cells))
