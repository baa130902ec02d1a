use Rattle.gfx_laws.proofs.Bringing.{not-seen}
use Rattle.gfx_laws.proofs.sessions.later_kinds_are_not_seen.Goals as goal

pub returns : goal.returns
returns c = not-seen
