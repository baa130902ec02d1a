use Rattle.gfx_schedule.proofs.Queueing.{waiting_waits_for_the_client}
use Rattle.gfx_schedule.proofs.feeding.waiting_waits_for_the_client.Goals as goal

pub returns : goal.returns
returns c = waiting_waits_for_the_client
