use Rattle.std.proofs.Common.{◌<◌, length, pos, arith, refl}
use Rattle.gfx_quant.proofs.Steps.{maps_step}
use Rattle.gfx_quant.proofs.dequantising.clear.Goals as goal

pub loop-place-preserved : goal.loop-place-preserved
loop-place-preserved c =
    let i = c.loop-place.place in
    let old = c.args.out.now in
    let now = c.loop-place.out in
    let inside : i < length now = omega arith in
    maps_step (λ _. pos 0) c.args.from i old old now (pos 0) (omega arith) inside refl c.loop-place.invariant
