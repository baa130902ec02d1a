use Rattle.std.proofs.Common.{subst}
use Rattle.gfx_base.specs.Field.{IsBytes}
use Rattle.gfx_prog_encode.proofs.Codes.{pass-only}
use Rattle.gfx_prog_encode.proofs.data.pass_to.Goals as goal

pub returns-clause-value : goal.returns-clause-value
returns-clause-value c =
    pass-only c.args.tile.now c.args.component c.args.level c.in_ok-pass.pass.srl c.in_ok-pass.pass.raw
    (subst IsBytes c.as_slice.ensures c.are_bytes.ensures) (subst IsBytes c.as_slice-2.ensures c.are_bytes-2.ensures) c.in_ok-pass.ensures.data
