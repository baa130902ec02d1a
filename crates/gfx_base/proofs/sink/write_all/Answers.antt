use Rattle.gfx_base.proofs.Streams.{Sent_more}
use Rattle.gfx_base.proofs.sink.write_all.Goals as goal

pub pieces-preserved : goal.pieces-preserved
pieces-preserved g c =
    rw c.split_at.ensures.back
    (Sent_more _ _ _ _ _ _ _ _ _ c.pieces.invariant c.in_ok-taken.ensures.count c.in_ok-taken.ensures.gained)
