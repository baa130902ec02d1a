use Rattle.std.proofs.Common.{◌∙◌, sym, ap}
use Rattle.gfx_kept_input.specs.Front.{front}
use Rattle.gfx_kept_input.proofs.TurnLemmas.{server_waits, server_bad, stops_at}
use Rattle.gfx_kept_input.proofs.taker.read_server.Goals as goal

pub returns-in-Ok-None-clause-turn : goal.returns-in-Ok-None-clause-turn
returns-in-Ok-None-clause-turn c = λ bytes held.
    server_waits c.args.taker.now bytes c.requires held (ap front (sym c.as_slice.ensures) ∙ rw c.in-Ok-None.field-0-is at c.in-Ok-None.ensures.read)

pub returns-in-Err-Refused-clause-turn : goal.returns-in-Err-Refused-clause-turn
returns-in-Err-Refused-clause-turn c = λ bytes held.
    stops_at c.refuse.result c.refuse.new.taker bytes c.in-Err-Refused.refusal c.refuse.ensures.taken c.refuse.ensures.part
    (server_bad c.args.taker.now bytes c.in-Err-Refused.refusal held (ap front (sym c.as_slice.ensures) ∙ rw c.in-Err-Refused.field-0-is at c.in-Err-Refused.ensures.read))
