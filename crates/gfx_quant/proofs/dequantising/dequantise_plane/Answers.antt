use Rattle.std.proofs.Common.{◌≡◌, length, arith}
use Rattle.gfx_quant.proofs.Everywhere.{scaled_coefficients}
use Rattle.gfx_quant.proofs.dequantising.dequantise_plane.Goals as goal

pub returns-then-fits-clause-coefficients : goal.returns-then-fits-clause-coefficients
returns-then-fits-clause-coefficients c = λ _.
    let len : length c.narrow_plane.new.out ≡ 4096 = omega (arith, c.requires.room) in
    let has = rw c.if-fits.true at c.plane_has-fits.ensures in
    scaled_coefficients c.args.transform c.args.positions.now c.args.plane.now c.narrow_plane.new.out len has c.narrow_plane.ensures
