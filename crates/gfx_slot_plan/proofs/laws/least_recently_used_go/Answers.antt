use Rattle.gfx_slot_plan.proofs.Histories.{keeps_by_use}
use Rattle.gfx_slot_plan.proofs.laws.least_recently_used_go.Goals as goal

pub returns : goal.returns
returns c = keeps_by_use
