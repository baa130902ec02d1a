use Rattle.gfx_state.proofs.Coming.{coming_before_all, coming-given, coming_reaches, coming_needs, coming_refuses}
use Rattle.gfx_state.proofs.laws.moves_make_the_history.Goals as goal

pub returns-clause-start : goal.returns-clause-start
returns-clause-start c = coming_before_all

pub returns-clause-pieces : goal.returns-clause-pieces
returns-clause-pieces c = coming-given

pub returns-clause-steps : goal.returns-clause-steps
returns-clause-steps c = coming_reaches

pub returns-clause-needs : goal.returns-clause-needs
returns-clause-needs c = coming_needs

pub returns-clause-refuses : goal.returns-clause-refuses
returns-clause-refuses c = coming_refuses
