use Rattle.gfx_quant.proofs.InBands.{known_have}
use Rattle.gfx_quant.proofs.dequantising.band_fits.Goals as goal

pub returns-then-is_known : goal.returns-then-is_known
returns-then-is_known c =
    let known = c.is_known.ensures c.if-is_known.true in
    known_have c.args.transform c.args.plane.now c.args.position c.args.magnitude c.args.band known.0 known.1 c.requires.magnitude
