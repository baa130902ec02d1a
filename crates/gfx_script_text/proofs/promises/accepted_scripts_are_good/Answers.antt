use Rattle.gfx_script_text.proofs.Accepted.{accepted}
use Rattle.gfx_script_text.proofs.promises.accepted_scripts_are_good.Goals as goal

pub returns : goal.returns
returns c = accepted
