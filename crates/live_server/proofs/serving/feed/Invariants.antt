use Rattle.gfx_session.specs.Live.{IsLive}
use Rattle.live_server.proofs.serving.feed.Given as goal

abbrev pub invariant-records : goal.invariant-records
invariant-records g l = IsLive l.live
