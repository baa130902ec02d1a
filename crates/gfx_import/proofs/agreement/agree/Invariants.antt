use Rattle.std.proofs.Common.{◌≡◌, ◌-◌, drop}
use Rattle.gfx_import.specs.declared.limits.TheConstants.{MOST_ENTRIES}
use Rattle.gfx_import.specs.Agreed.{agree}
use Rattle.gfx_import.proofs.agreement.agree.Given as goal

abbrev pub invariant-entries : goal.invariant-entries
invariant-entries l = agree l.server (drop l.place l.client) ≡ agree l.server l.client

abbrev pub decreases-entries : goal.decreases-entries
decreases-entries l = MOST_ENTRIES - l.place
