use Rattle.std.proofs.Common.{◌<◌, ◌∙◌, ◌^◌, length, arith, lit<, length-set}
use Rattle.gfx_dwt.specs.Ranges.{at}
use Rattle.gfx_quant.specs.Colour.{colour_of}
use Rattle.gfx_quant.proofs.Rests.{tile_painted}
use Rattle.gfx_quant.proofs.Steps.{colour_read}
use Rattle.gfx_quant.proofs.rows.to_colours.Goals as goal

pub loop-place-preserved : goal.loop-place-preserved
loop-place-preserved c =
    let y = c.args.y.now in
    let cb = c.args.cb.now in
    let cr = c.args.cr.now in
    let k = c.loop-place.place in
    let out = c.loop-place.out in
    let inside : k < length out = omega (arith, c.loop-place.invariant.0) in
    let read = colour_read (2 ^ 23) (at y k) (at cb k) (at cr k) (lit< tt) (c.requires.y k (omega arith)) (c.requires.cb k (omega arith)) (c.requires.cr k (omega arith)) in
    (length-set _ _ _ ∙ c.loop-place.invariant.0, tile_painted (λ j. colour_of (at y j) (at cb j) (at cr j)) out k c.to_colour.result inside (c.to_colour.ensures ∙ read) c.loop-place.invariant.1)
