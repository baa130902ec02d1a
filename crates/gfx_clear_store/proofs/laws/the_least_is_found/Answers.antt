use Rattle.gfx_clear_store.proofs.Least.{is_least}
use Rattle.gfx_clear_store.proofs.laws.the_least_is_found.Goals as goal

pub returns : goal.returns
returns c = is_least
