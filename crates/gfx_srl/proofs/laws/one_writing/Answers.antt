use Rattle.gfx_srl.proofs.OneWriting.{one-writing}
use Rattle.gfx_srl.proofs.laws.one_writing.Goals as goal

pub returns : goal.returns
returns c pairs one other bytes bytes' p q = one-writing pairs one other bytes bytes' p q
