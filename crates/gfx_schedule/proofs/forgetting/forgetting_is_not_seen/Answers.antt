use Rattle.gfx_schedule.proofs.ForgottenPlans.{forgetting_is_planned}
use Rattle.gfx_schedule.proofs.ForgottenScripts.{stays_behind}
use Rattle.gfx_schedule.proofs.forgetting.forgetting_is_not_seen.Goals as goal

pub returns-clause-behind : goal.returns-clause-behind
returns-clause-behind c = stays_behind

pub returns-clause-planned : goal.returns-clause-planned
returns-clause-planned c = forgetting_is_planned
