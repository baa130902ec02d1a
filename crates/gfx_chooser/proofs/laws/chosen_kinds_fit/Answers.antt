use Rattle.gfx_chooser.proofs.Asking.{kinded_fit}
use Rattle.gfx_chooser.proofs.laws.chosen_kinds_fit.Goals as goal

pub returns : goal.returns
returns c = kinded_fit
