use Rattle.std.proofs.Common.{◌≡◌, length, arith, rules}
use Rattle.gfx_dwt.specs.Place.{number}
use Rattle.gfx_quant.proofs.Everywhere.{few}
use Rattle.gfx_quant.proofs.Nibbles.{base_at, nibble_at}
use Rattle.gfx_quant.proofs.Smaller.{plane_quantised_small}
use Rattle.gfx_quant.proofs.quantising.quantise_plane.Goals as goal

pub returns-clause-small : goal.returns-clause-small
returns-clause-small c =
    let len : length c.args.coefficients.now ≡ 4096 = omega arith in
    let len' : length c.quantise_bands.new.out ≡ 4096 = omega arith in
    let ten : length c.args.base.now.values ≡ 10 = search rules in
    plane_quantised_small c.args.rounding c.args.transform c.args.base.now.values c.args.coefficients.now c.quantise_bands.new.out len len'
    (λ band. base_at c.args.base.now.values (number band) (omega (arith, ten, few band)) c.requires.base)
    (λ band. nibble_at c.args.base.now.values (number band) (omega (arith, ten, few band)) c.args.base.now.nibbles) c.quantise_bands.ensures c.requires.coefficients
