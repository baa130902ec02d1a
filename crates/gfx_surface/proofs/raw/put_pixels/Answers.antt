use Rattle.std.proofs.Common.{arith}
use Rattle.gfx_surface.proofs.CopyLemmas.{made_pixel, made_all}
use Rattle.gfx_surface.proofs.raw.put_pixels.Goals as goal

pub pixels-preserved : goal.pixels-preserved
pixels-preserved c =
    made_pixel _ c.args.bytes.now _ _ _ (omega arith) (omega arith) c.shaded.ensures c.pixels.invariant

pub returns : goal.returns
returns c = made_all _ c.args.bytes.now _ c.pixels.i (omega arith) (omega arith) c.pixels.invariant
