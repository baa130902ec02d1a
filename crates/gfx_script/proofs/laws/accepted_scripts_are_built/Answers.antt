use Rattle.gfx_script.proofs.Builds.{accepted_built}
use Rattle.gfx_script.proofs.laws.accepted_scripts_are_built.Goals as goal

pub returns : goal.returns
returns c = accepted_built
