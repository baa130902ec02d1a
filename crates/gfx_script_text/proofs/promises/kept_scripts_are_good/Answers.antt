use Rattle.gfx_script_text.proofs.Accepted.{accepted_kept}
use Rattle.gfx_script_text.proofs.promises.kept_scripts_are_good.Goals as goal

pub returns : goal.returns
returns c = accepted_kept
