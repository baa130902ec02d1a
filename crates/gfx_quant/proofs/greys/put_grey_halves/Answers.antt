use Rattle.std.proofs.Common.{◌≡◌, ◌<◌, pos, ◌+◌, ◌*◌, ◌∙◌, ap, length, FitsSigned, w16, arith, rules, length-set}
use Rattle.std.proofs.lemmas.Int.{to_z-of_z}
use Rattle.gfx_dwt.specs.Ranges.{at}
use Rattle.gfx_quant.specs.Colour.{channel}
use Rattle.gfx_quant.proofs.Rests.{numbered}
use Rattle.gfx_quant.proofs.greys.put_grey_halves.Goals as goal

pub loop-place-preserved : goal.loop-place-preserved
loop-place-preserved c =
    let y = c.args.y.now in
    let from = c.args.from in
    let i = c.loop-place.place in
    let before = c.loop-place.invariant in
    let there : from + i < length y = omega arith in
    let sample : FitsSigned w16 (at y (from + i)) = search rules in
    let here : c.grey-grey.result ≡ channel (at y (from + i)) (pos 0) = c.grey-grey.ensures ∙ ap (λ z. channel z (pos 0)) (to_z-of_z w16 (at y (from + i)) sample) in
    record {
      low_len = length-set _ _ _ ∙ before.low_len;
      high_len = length-set _ _ _ ∙ before.high_len;
      lows = numbered (λ k. channel (at y (from + k)) (pos 0) + 256 * channel (at y (from + k)) (pos 0)) c.loop-place.low i c.pair.result (omega (arith, before.low_len)) (c.pair.ensures ∙ ap (λ n. n + 256 * n) here) before.lows;
      highs = numbered (λ k. channel (at y (from + k)) (pos 0)) c.loop-place.high i c.from.result (omega (arith, before.high_len)) (c.from.ensures ∙ here) before.highs;
    }
