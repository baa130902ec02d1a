use Rattle.gfx_caps.proofs.Laws.{spelling-spells}
use Rattle.gfx_caps.proofs.promises.what_is_written_for_a_client_is_spelled.Goals as goal

pub returns : goal.returns
returns c = spelling-spells
