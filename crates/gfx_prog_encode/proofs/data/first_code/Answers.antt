use Rattle.std.proofs.Common.{subst}
use Rattle.gfx_base.specs.Field.{IsBytes}
use Rattle.gfx_prog_encode.proofs.Codes.{code-only}
use Rattle.gfx_prog_encode.proofs.data.first_code.Goals as goal

pub returns-clause-value : goal.returns-clause-value
returns-clause-value c =
    code-only c.first_values.new.out _ c.in_ok-code.code c.first_values.array_long (subst IsBytes c.as_slice.ensures c.are_bytes.ensures) c.in_ok-code.ensures.written c.first_values.ensures.value
