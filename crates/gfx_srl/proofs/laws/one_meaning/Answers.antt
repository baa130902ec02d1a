use Rattle.gfx_srl.proofs.Unique.{one-meaning}
use Rattle.gfx_srl.proofs.laws.one_meaning.Goals as goal

pub returns : goal.returns
returns c bits one other widths p q = one-meaning bits one other widths p q
