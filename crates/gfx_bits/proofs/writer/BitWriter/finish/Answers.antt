use Rattle.std.proofs.Common.{arith}
use Rattle.gfx_bits.proofs.Writing.{word_below, padded}
use Rattle.gfx_bits.proofs.writer.BitWriter.finish.Goals as goal

pub overflow_cast-word-2 : goal.overflow_cast-word-2
overflow_cast-word-2 c = omega (arith, word_below c.self.inside.pending c.self.inside.count c.self.invariant.0 c.self.invariant.1)

pub returns : goal.returns
returns c =
    let filled = padded c.self.inside.bytes.items c.args.self c.self.inside.pending c.self.inside.count c.self.invariant.0 c.self.invariant.1 c.self.view_is in
    rw (c.in_ok-extend_from_slice.ensures.items, c.to_be_bytes.ensures) filled
