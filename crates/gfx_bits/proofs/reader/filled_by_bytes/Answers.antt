use Rattle.std.proofs.Common.{◌∙◌, arith}
use Rattle.gfx_bits.proofs.Ahead.{one_byte}
use Rattle.gfx_bits.proofs.reader.filled_by_bytes.Goals as goal

pub bytes-preserved : goal.bytes-preserved
bytes-preserved c =
    let more = one_byte c.bytes.ahead c.bytes.count c.from.result c.bytes.rest.now (omega arith) c.bytes.invariant.1 c.from.ensures (omega arith) (omega arith) (omega arith) in
    (more.0 ∙ c.bytes.invariant.0, more.1)
