use Rattle.gfx_caps.proofs.Laws.{client_of-spells}
use Rattle.gfx_caps.proofs.promises.what_is_spelled_for_a_client_is_read.Goals as goal

pub returns : goal.returns
returns c = client_of-spells
