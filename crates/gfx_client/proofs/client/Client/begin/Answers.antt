use Rattle.std.proofs.Common.{rules, refl}
use Rattle.gfx_client.proofs.Beginning.{untouched_new}
use Rattle.gfx_client.proofs.Bringing.{brought_new}
use Rattle.gfx_client.proofs.Playing.{stands_new, drained_new}
use Rattle.gfx_client.proofs.client.Client.begin.Goals as goal

pub returns-clause-stands : goal.returns-clause-stands
returns-clause-stands c = stands_new _ (search rules)

pub returns-clause-drained : goal.returns-clause-drained
returns-clause-drained c = drained_new _ (search rules) refl

pub returns-clause-brought : goal.returns-clause-brought
returns-clause-brought c = brought_new _ (search rules)

pub returns-clause-untouched : goal.returns-clause-untouched
returns-clause-untouched c = untouched_new _ (search rules) refl
