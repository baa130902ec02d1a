use Rattle.gfx_bits.specs.Bits.{bits_of}
use Rattle.gfx_srl.proofs.Reading.{begun}
use Rattle.gfx_srl.proofs.reader.SrlReader.new.Goals as goal

pub returns : goal.returns
returns c = rw c.new.ensures (begun (bits_of c.args.bytes.now))
