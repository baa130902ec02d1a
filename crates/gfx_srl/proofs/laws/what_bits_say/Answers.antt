use Rattle.gfx_srl.proofs.Says.{always-says, said-count, says-only}
use Rattle.gfx_srl.proofs.laws.what_bits_say.Goals as goal

pub returns-clause-says : goal.returns-clause-says
returns-clause-says c = always-says

pub returns-clause-count : goal.returns-clause-count
returns-clause-count c = said-count

pub returns-clause-only : goal.returns-clause-only
returns-clause-only c = says-only
