use Rattle.std.proofs.Common.{◌≡◌, ◌-◌, min, FitsSigned, w16, arith}
use Rattle.gfx_quant.proofs.Shifts.{shl_is}
use Rattle.gfx_quant.proofs.dequantising.scaled.Goals as goal

pub returns : goal.returns
returns c =
    let value : FitsSigned w16 c.args.v = c.ranges.v in
    let by : c.min.result ≡ min (c.args.position - 1) 15 = omega (arith, c.min.ensures) in
    rw by (shl_is c.args.v (c.args.position - 1) value c.requires.fits)
