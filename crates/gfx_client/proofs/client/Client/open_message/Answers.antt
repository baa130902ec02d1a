use Rattle.gfx_client.proofs.ClientLemmas.{opened, left_at_end}
use Rattle.gfx_client.proofs.client.Client.open_message.Goals as goal

pub open_next-requires : goal.open_next-requires
open_next-requires c = left_at_end c.args.self.now.payloads.left c.requires

pub returns-clause-opens : goal.returns-clause-opens
returns-clause-opens c = opened c.args.self.now c.open_next.result c.open_next.new.self c.requires c.open_next.ensures.opens
