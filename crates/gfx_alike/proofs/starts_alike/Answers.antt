use Rattle.gfx_alike.proofs.Steps.{wider_is_alike, starts_are_alike, alike_confirmed}
use Rattle.gfx_alike.proofs.starts_alike.Goals as goal

pub returns-clause-wider : goal.returns-clause-wider
returns-clause-wider c = wider_is_alike

pub returns-clause-kept : goal.returns-clause-kept
returns-clause-kept c = starts_are_alike

pub returns-clause-confirmed : goal.returns-clause-confirmed
returns-clause-confirmed c = alike_confirmed
