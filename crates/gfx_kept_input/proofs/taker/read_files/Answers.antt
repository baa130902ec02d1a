use Rattle.gfx_kept_input.specs.Taking.{Holds}
use Rattle.gfx_kept_input.proofs.TurnLemmas.{script_waits}
use Rattle.std.proofs.Common.{subst}
use Rattle.gfx_kept_input.proofs.taker.read_files.Goals as goal

pub returns-in-Script : goal.returns-in-Script
returns-in-Script c = λ bytes held.
    script_waits c.args.taker.now bytes c.in-Script.is (subst (λ p. Holds p c.args.taker.now bytes) c.in-Script.is held)
