use Rattle.std.proofs.Common.{◌++◌, length, ap, ◌∙◌, arith, length-append}
use Rattle.gfx_clear.specs.Sending.{part_bytes}
use Rattle.gfx_clear.proofs.Few.{part_few, placed_few}
use Rattle.gfx_clear.proofs.encoding.put_layer.Goals as goal

pub put_part-requires : goal.put_part-requires
put_part-requires c =
    let few = part_few c.args.layer c.args.store.now.held c.args.width c.args.height c.args.pixels.now c.ranges.height.fits c.requires.pixels in
    let same = ap (λ p. length p.bytes) c.in_ok-part.ensures.part in
    omega (arith, c.requires.few, c.requires.pixels)

pub returns-clause-ok : goal.returns-clause-ok
returns-clause-ok c = c.in_ok-put_part.ensures ∙ ap (λ p. c.args.out.now ++ part_bytes c.args.width c.args.height p) c.in_ok-part.ensures.part

pub returns-clause-small : goal.returns-clause-small
returns-clause-small c =
    let few = part_few c.args.layer c.args.store.now.held c.args.width c.args.height c.args.pixels.now c.ranges.height.fits c.requires.pixels in
    let same = ap (λ p. length p.bytes) c.in_ok-part.ensures.part in
    let placed = placed_few c.in_ok-part.part.place c.args.width c.args.height c.in_ok-part.part.bytes in
    omega (arith, ap length c.in_ok-put_part.ensures, length-append c.args.out.now (part_bytes c.args.width c.args.height c.in_ok-part.part))
