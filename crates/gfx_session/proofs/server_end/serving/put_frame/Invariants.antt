use Rattle.gfx_session.proofs.Framing.{Walking}
use Rattle.gfx_session.proofs.server_end.serving.put_frame.Given as goal

abbrev pub invariant-places : goal.invariant-places
invariant-places l = Walking l.script l.window l.place l.fn.planner.server l.planner l.fn.out l.out
