use Rattle.gfx_schedule.proofs.SparedScripts.{all_is_forgotten, left_out_stays_so, spared_grows, spared_serves_alike, spared_stays_so, sparing_is_planned, waiting_is_spared}
use Rattle.gfx_schedule.proofs.sparing.sparing_is_not_seen.Goals as goal

pub returns-clause-serves_alike : goal.returns-clause-serves_alike
returns-clause-serves_alike c = spared_serves_alike

pub returns-clause-stays : goal.returns-clause-stays
returns-clause-stays c = spared_stays_so

pub returns-clause-left_out : goal.returns-clause-left_out
returns-clause-left_out c = left_out_stays_so

pub returns-clause-grows : goal.returns-clause-grows
returns-clause-grows c = spared_grows

pub returns-clause-all : goal.returns-clause-all
returns-clause-all c = all_is_forgotten

pub returns-clause-waiting : goal.returns-clause-waiting
returns-clause-waiting c = waiting_is_spared

pub returns-clause-planned : goal.returns-clause-planned
returns-clause-planned c = sparing_is_planned
