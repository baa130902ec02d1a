use Rattle.std.proofs.Common.{◌<◌, ◌∙◌, length, arith, refl, length-set}
use Rattle.gfx_quant.proofs.Rests.{tile_painted}
use Rattle.gfx_quant.proofs.greys.put_solid.Goals as goal

pub loop-place-preserved : goal.loop-place-preserved
loop-place-preserved c =
    let i = c.loop-place.place in
    let out = c.loop-place.out in
    let inside : i < length out = omega (arith, c.loop-place.invariant.len) in
    record {
      len = length-set _ _ _ ∙ c.loop-place.invariant.len;
      row = tile_painted (λ j. c.args.pixel) out i c.args.pixel inside refl c.loop-place.invariant.row;
    }
