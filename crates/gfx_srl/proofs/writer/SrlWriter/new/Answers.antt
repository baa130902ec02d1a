use Rattle.gfx_srl.proofs.Writing.{begun}
use Rattle.gfx_srl.proofs.writer.SrlWriter.new.Goals as goal

pub returns : goal.returns
returns c = rw c.new.ensures begun
