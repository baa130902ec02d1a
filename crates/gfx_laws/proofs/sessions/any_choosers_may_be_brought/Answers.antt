use Rattle.gfx_laws.proofs.Bringing.{may-be-brought}
use Rattle.gfx_laws.proofs.sessions.any_choosers_may_be_brought.Goals as goal

pub returns : goal.returns
returns c = may-be-brought
