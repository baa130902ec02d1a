use Rattle.std.proofs.Common.{arith}
use Rattle.gfx_base.specs.declared.format.Format.TheVariants.{Xrgb}
use Rattle.gfx_surface.proofs.CopyLemmas.{shaded_pixels, shaded_all}
use Rattle.gfx_surface.proofs.copies.shade_pixels.Goals as goal

pub pixels-preserved : goal.pixels-preserved
pixels-preserved c =
    shaded_pixels Xrgb c.args.from.now c.pixels.pixels c.pixels.i c.shaded.result c.pixels-test.true (omega arith) c.shaded.ensures c.pixels.invariant

pub returns : goal.returns
returns c = shaded_all Xrgb _ _ c.pixels.i (omega arith) (omega arith) c.pixels.invariant
