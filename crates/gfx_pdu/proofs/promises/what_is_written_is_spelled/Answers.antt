use Rattle.gfx_pdu.proofs.Laws.{spelling-spells}
use Rattle.gfx_pdu.proofs.promises.what_is_written_is_spelled.Goals as goal

pub returns : goal.returns
returns c = spelling-spells
