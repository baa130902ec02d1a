use Rattle.gfx_clear.proofs.Law.{law}
use Rattle.gfx_clear.proofs.laws.sent_is_decoded.Goals as goal

pub returns : goal.returns
returns c = law
