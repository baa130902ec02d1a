use Rattle.std.proofs.Common.{◌≡◌, length}
use Rattle.gfx_prog_live.specs.Inside.{OfPicture}
use Rattle.gfx_prog_live.proofs.Making.{DrawnBelow}
use Rattle.gfx_prog_live.proofs.tiles.cell_pixels.Given as goal

-- the pixels so far are drawn
abbrev pub invariant-pixels : goal.invariant-pixels
invariant-pixels l = (length l.pixels ≡ 4096) × OfPicture l.script l.picture (λ drawing. DrawnBelow drawing l.rect l.cell l.place l.pixels)
