use Rattle.std.proofs.Common.{◌<◌, ◌∙◌, ◌+◌, length, arith, rules, length-set}
use Rattle.gfx_dwt.specs.Ranges.{at}
use Rattle.gfx_quant.specs.Colour.{colour_of}
use Rattle.gfx_quant.proofs.Rests.{before_row, colour_read_narrow, row_painted}
use Rattle.gfx_quant.proofs.rows.put_any_row.Goals as goal

pub loop-place-preserved : goal.loop-place-preserved
loop-place-preserved c =
    let y = c.args.y.now in
    let cb = c.args.cb.now in
    let cr = c.args.cr.now in
    let from = c.args.from in
    let i = c.loop-place.place in
    let out = c.loop-place.out in
    let k = from + i in
    let inside : k < length out = omega (arith, c.loop-place.invariant.len) in
    let in_y : k < length y = omega arith in
    let in_cb : k < length cb = omega arith in
    let in_cr : k < length cr = omega arith in
    let read = colour_read_narrow (at y k) (at cb k) (at cr k) (search rules) (search rules) (search rules) in
    record {
      len = length-set _ _ _ ∙ c.loop-place.invariant.len;
      row = row_painted (λ j. colour_of (at y (from + j)) (at cb (from + j)) (at cr (from + j))) from out i c.colour_narrow.result inside (c.colour_narrow.ensures ∙ read) c.loop-place.invariant.row;
      before = before_row from c.args.out.now out i c.colour_narrow.result c.loop-place.invariant.before;
    }
