use Rattle.std.proofs.Common.{arith, ◌∙◌, ap}
use Rattle.std.proofs.lemmas.List.{get_or-set_other}
use Rattle.gfx_base.specs.declared.format.Format.TheVariants.{Xrgb}
use Rattle.gfx_surface.specs.Picture.{shade, no_pixel}
use Rattle.gfx_surface.proofs.CopyLemmas.{shaded_pixels, shaded_all}
use Rattle.gfx_surface.proofs.lending.make_opaque.Goals as goal

pub pixels-preserved : goal.pixels-preserved
pixels-preserved c = record {
  done =
      shaded_pixels Xrgb c.args.pixels.now c.pixels.pixels c.pixels.i c.shaded.result c.pixels-test.true c.pixels.auto.pixels
      (c.shaded.ensures ∙ ap (shade Xrgb) (c.pixels.invariant.rest c.pixels.i no_pixel (omega arith))) c.pixels.invariant.done;
  rest = λ k d later. get_or-set_other c.pixels.pixels c.pixels.i k c.shaded.result d (omega arith) ∙ c.pixels.invariant.rest k d (omega arith);
}

pub returns : goal.returns
returns c = shaded_all Xrgb _ _ c.pixels.i (omega arith) (omega arith) c.pixels.invariant.done
