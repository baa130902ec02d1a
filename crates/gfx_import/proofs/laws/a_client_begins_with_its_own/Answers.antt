use Rattle.gfx_import.proofs.StartedLemmas.{own-cached}
use Rattle.gfx_import.proofs.laws.a_client_begins_with_its_own.Goals as goal

pub returns : goal.returns
returns c = own-cached
