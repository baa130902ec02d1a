use Rattle.gfx_kept_input.proofs.TurnLemmas.{nothing_yet}
use Rattle.gfx_kept_input.proofs.EndLemmas.{finished}
use Rattle.gfx_kept_input.proofs.reading.read_kept_input.Goals as goal

pub read_input-requires-clause-start : goal.read_input-requires-clause-start
read_input-requires-clause-start g c = nothing_yet c.new-taker.result c.new-taker.ensures.part c.new-taker.ensures.bytes c.new-taker.ensures.server c.new-taker.ensures.client

pub returns : goal.returns
returns g c = rw c.ended.ensures (finished c.in_ok-read.read c.args.limit _ c.read_input.new.taker c.in_ok-read.ensures)
