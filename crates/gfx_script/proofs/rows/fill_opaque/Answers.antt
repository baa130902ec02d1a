use Rattle.std.proofs.Common.{arith, refl}
use Rattle.gfx_base.specs.declared.format.Format.TheVariants.{Xrgb}
use Rattle.gfx_surface.proofs.CopyLemmas.{made_pixel, made_all}
use Rattle.gfx_script.proofs.rows.fill_opaque.Goals as goal

pub pixels-preserved : goal.pixels-preserved
pixels-preserved c = made_pixel Xrgb c.args.bytes.now _ _ _ (omega arith) (omega arith) refl c.pixels.invariant

pub returns : goal.returns
returns c = made_all Xrgb c.args.bytes.now _ c.pixels.i (omega arith) (omega arith) c.pixels.invariant
