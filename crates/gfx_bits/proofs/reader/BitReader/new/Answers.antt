use Rattle.gfx_bits.proofs.Ahead.{none_ahead}
use Rattle.gfx_bits.proofs.reader.BitReader.new.Goals as goal

pub returns : goal.returns
returns c = none_ahead c.args.bytes.now
