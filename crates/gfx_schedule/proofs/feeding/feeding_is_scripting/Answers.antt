use Rattle.gfx_schedule.proofs.Fed.{feeding_is_scripting}
use Rattle.gfx_schedule.proofs.feeding.feeding_is_scripting.Goals as goal

pub returns : goal.returns
returns c = feeding_is_scripting
