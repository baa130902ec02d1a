use Rattle.gfx_session.specs.Kept.{IsServerEnd}
use Rattle.server_example.proofs.play_all.Given as goal

abbrev pub invariant-events : goal.invariant-events
invariant-events g l = IsServerEnd l.server
