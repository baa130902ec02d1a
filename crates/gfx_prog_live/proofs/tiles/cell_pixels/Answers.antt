use Rattle.std.proofs.Common.{◌∙◌, refl, arith}
use Rattle.std.proofs.Math.ListN.{length-set}
use Rattle.gfx_prog_live.proofs.Making.{all_drawn, one_drawn, pixel_there}
use Rattle.gfx_prog_live.proofs.tiles.cell_pixels.Goals as goal

pub pixels-init : goal.pixels-init
pixels-init c = (c.told-pixels, λ drawing there k h. absurd (omega arith))

pub pixels-preserved : goal.pixels-preserved
pixels-preserved c = (
  length-set c.pixels.pixels c.pixels.place c.picture_pixel.result ∙ c.pixels.invariant.0,
  λ drawing there.
      one_drawn drawing c.args.rect c.args.cell c.pixels.place c.picture_pixel.result c.pixels.pixels _ (omega (arith, c.pixels.invariant.0)) refl
      (pixel_there _ drawing c.picture_pixel.result c.nearest.result c.nearest-in-pixels.result _ _ c.picture_pixel.ensures there c.nearest.ensures c.nearest-in-pixels.ensures)
      (c.pixels.invariant.1 drawing there),
)

pub returns : goal.returns
returns c = λ drawing there.
    all_drawn drawing c.args.rect c.args.cell c.pixels.pixels c.pixels.invariant.0 (λ k h. c.pixels.invariant.1 drawing there k (omega arith))
