use Rattle.std.proofs.Common.{◌<◌, ◌∙◌, ◌+◌, length, arith, length-set}
use Rattle.gfx_quant.proofs.Rests.{before_row, row_joined}
use Rattle.gfx_quant.proofs.halves.join_halves.Goals as goal

pub loop-place-preserved : goal.loop-place-preserved
loop-place-preserved c =
    let from = c.args.from in
    let i = c.loop-place.place in
    let out = c.loop-place.out in
    let inside : from + i < length out = omega (arith, c.loop-place.invariant.len) in
    record {
      len = length-set _ _ _ ∙ c.loop-place.invariant.len;
      row = rw c.joined.ensures (row_joined c.args.low.now c.args.high.now from out i inside c.loop-place.invariant.row);
      before = before_row from c.args.out.now out i c.joined.result c.loop-place.invariant.before;
    }
