use Rattle.gfx_state.proofs.Moves.{settled-given, settled_reaches, settled_needs, settled_refuses, settled_before_all}
use Rattle.gfx_state.proofs.laws.steps_keep_the_run.Goals as goal

pub returns-clause-start : goal.returns-clause-start
returns-clause-start c = settled_before_all

pub returns-clause-pieces : goal.returns-clause-pieces
returns-clause-pieces c = settled-given

pub returns-clause-steps : goal.returns-clause-steps
returns-clause-steps c = settled_reaches

pub returns-clause-needs : goal.returns-clause-needs
returns-clause-needs c = settled_needs

pub returns-clause-refuses : goal.returns-clause-refuses
returns-clause-refuses c = settled_refuses
