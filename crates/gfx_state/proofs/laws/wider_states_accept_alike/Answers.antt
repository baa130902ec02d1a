use Rattle.gfx_state.proofs.Wider.{started_fresh, step_wider, all_steps_wider, sent_wider, ended_wider, Wider_same, wider_alike}
use Rattle.gfx_state.proofs.laws.wider_states_accept_alike.Goals as goal

pub returns-clause-start : goal.returns-clause-start
returns-clause-start c = started_fresh

pub returns-clause-one : goal.returns-clause-one
returns-clause-one c = step_wider

pub returns-clause-all : goal.returns-clause-all
returns-clause-all c = all_steps_wider

pub returns-clause-sent : goal.returns-clause-sent
returns-clause-sent c = sent_wider

pub returns-clause-ends : goal.returns-clause-ends
returns-clause-ends c = ended_wider

pub returns-clause-same : goal.returns-clause-same
returns-clause-same c = Wider_same

pub returns-clause-alike : goal.returns-clause-alike
returns-clause-alike c = wider_alike
