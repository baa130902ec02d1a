use Rattle.std.proofs.Common.{◌≡◌, ◌-ℤ◌, to_z, of_z, w16, lit<}
use Rattle.std.proofs.lemmas.Int.{to_z-of_z}
use Rattle.gfx_dwt.specs.Lifting.{even_of}
use Rattle.gfx_dwt.proofs.Bounds.{bits_of_short, bits_of_narrow}
use Rattle.gfx_dwt.proofs.narrow.formula.even_sample.Goals as goal

pub returns-clause-small : goal.returns-clause-small
returns-clause-small g c =
    let low = to_z-of_z w16 c.args.low c.ranges.low in
    let before = to_z-of_z w16 c.args.before c.ranges.before in
    let here = to_z-of_z w16 c.args.here c.ranges.here in
    let mean = bits_of_short c.mean.result c.mean.type_inv in
    let value : to_z w16 (of_z w16 c.args.low) -ℤ to_z w16 (of_z w16 c.mean.result) ≡ even_of g.L.NarrowLifting.transform c.args.low c.args.before c.args.here = cc (c.mean.ensures.value, low, before, here, mean) in
    rw value (rw (bits_of_narrow 16382 _ (lit< tt) c.requires.small) c.requires.small)
