use Rattle.std.proofs.Common.{◌++◌, ap}
use Rattle.gfx_bits.specs.Bits.{digits, bits_of}
use Rattle.gfx_bits.proofs.writer.BitWriter.new.Goals as goal

pub returns : goal.returns
unfolding digits bits_of
returns c = ap (λ items. bits_of items ++ digits 0 0) c.new.ensures.items
