use Rattle.std.proofs.Common.{◌≡◌}
use Rattle.gfx_prog_live.specs.Live.{after_sends}
use Rattle.gfx_prog_live.proofs.live.LiveTiles.keep_all.Given as goal

-- what is left makes of them what all makes of those that were
abbrev pub invariant-sends : goal.invariant-sends
invariant-sends l = after_sends l.id l.send-iterator.rest.items l.self ≡ after_sends l.id l.fn.sends.items l.fn.self
