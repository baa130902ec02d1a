use Rattle.gfx_import.proofs.ChosenLemmas.{imported-chosen}
use Rattle.gfx_import.proofs.OwnLemmas.{agreed-own}
use Rattle.gfx_import.proofs.laws.what_is_imported_is_chosen.Goals as goal

pub returns-clause-chosen : goal.returns-clause-chosen
returns-clause-chosen c = imported-chosen

pub returns-clause-agreed : goal.returns-clause-agreed
returns-clause-agreed c = agreed-own
