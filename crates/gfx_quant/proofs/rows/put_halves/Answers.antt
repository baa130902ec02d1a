use Rattle.std.proofs.Common.{pos, negsuc, ◌+◌, ◌*◌, ◌+ℤ◌, ◌*ℤ◌, ◌∙◌, arith, length-set}
use Rattle.gfx_dwt.specs.Ranges.{Within, at}
use Rattle.gfx_quant.specs.Colour.{channel}
use Rattle.gfx_quant.proofs.Rests.{high_read, low_is, numbered}
use Rattle.gfx_quant.proofs.rows.put_halves.Goals as goal

pub loop-place-preserved : goal.loop-place-preserved
loop-place-preserved c =
    let y = c.args.y.now in
    let cb = c.args.cb.now in
    let cr = c.args.cr.now in
    let from = c.args.from in
    let i = c.loop-place.place in
    let before = c.loop-place.invariant in
    let luma : Within 8191 (at y (from + i)) = c.requires.y i (omega arith) in
    let blue : Within 8191 (at cb (from + i)) = c.requires.cb i (omega arith) in
    let red : Within 8191 (at cr (from + i)) = c.requires.cr i (omega arith) in
    record {
      low_len = length-set _ _ _ ∙ before.low_len;
      high_len = length-set _ _ _ ∙ before.high_len;
      lows = numbered (λ k. channel (at y (from + k)) (pos 115992 *ℤ at cb (from + k)) + 256 * channel (at y (from + k)) (negsuc 22526 *ℤ at cb (from + k) +ℤ negsuc 46818 *ℤ at cr (from + k))) c.loop-place.low i c.pair.result (omega (arith, before.low_len))
          (low_is (at y (from + i)) (at cb (from + i)) (at cr (from + i)) c.blue_of-blue.result c.green_of-green.result c.pair.result luma blue red c.blue_of-blue.ensures c.green_of-green.ensures c.pair.ensures) before.lows;
      highs = numbered (λ k. channel (at y (from + k)) (pos 91916 *ℤ at cr (from + k))) c.loop-place.high i c.from.result (omega (arith, before.high_len)) (c.from.ensures ∙ c.red_of.ensures ∙ high_read (at y (from + i)) (at cr (from + i)) luma red) before.highs;
    }
