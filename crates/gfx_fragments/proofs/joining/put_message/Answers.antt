use Rattle.gfx_segment.specs.Framing.{prefixed}
use Rattle.gfx_fragments.proofs.TurnLemmas.{writes_then, writes_not}
use Rattle.gfx_fragments.proofs.joining.put_message.Goals as goal

pub returns-in_err-write_all : goal.returns-in_err-write_all
unfolding prefixed
returns-in_err-write_all g c =
    writes_not c.from_residual.result _ _ c.args.message.now c.from_residual.ensures.0 (rw c.to_le_bytes-size.ensures at c.in_err-write_all.ensures)

pub returns : goal.returns
unfolding prefixed
returns g c = writes_then c.write_all-2.result _ _ _ _ _ _ _ _ (rw c.to_le_bytes-size.ensures at c.in_ok-write_all.ensures) c.write_all-2.ensures
