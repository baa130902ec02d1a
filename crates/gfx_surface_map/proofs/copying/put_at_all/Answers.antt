use Rattle.std.proofs.Common.{◌∙◌, ap}
use Rattle.gfx_surface.specs.Picture.{Picture}
use Rattle.gfx_surface.proofs.PictureLemmas.{overlaid-width, overlaid-height}
use Rattle.gfx_surface_map.proofs.CopiedLemmas.{stamped-more, stamped-all, fits_at_each}
use Rattle.gfx_surface_map.proofs.copying.put_at_all.Goals as goal

pub put_at-requires-clause-fits : goal.put_at-requires-clause-fits
put_at-requires-clause-fits c = fits_at_each _ _ _ _ c.args.rect c.args.points.now c.points.point-index _ c.points.invariant.width c.points.invariant.height c.requires.fits c.points-test.true

pub points-preserved : goal.points-preserved
points-preserved c = record {
  width = ap (λ (p : Picture). p.width) c.put_at.ensures ∙ overlaid-width _ _ _ ∙ c.points.invariant.width;
  height = ap (λ (p : Picture). p.height) c.put_at.ensures ∙ overlaid-height _ _ _ ∙ c.points.invariant.height;
  done = stamped-more _ c.points.surface _ c.args.rect c.args.pixels.now c.args.points.now c.points.point-index _ c.points-test.true c.put_at.ensures c.points.invariant.done;
}

pub returns : goal.returns
returns c = stamped-all _ _ c.args.rect c.args.pixels.now c.args.points.now c.points.point-index c.points-test.false c.points.invariant.done
