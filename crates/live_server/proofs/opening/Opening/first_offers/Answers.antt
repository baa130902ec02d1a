use Rattle.std.proofs.Common.{arith}
use Rattle.gfx_session.proofs.Midway.{one}
use Rattle.live_server.proofs.opening.Opening.first_offers.Goals as goal

pub messages-smaller : goal.messages-smaller
messages-smaller c =
    let o = one c.messages.self.splitter c.next_raw.new.self c.in-Some.message (rw c.in-Some.is at c.in_ok-message.ensures.exact) in
    omega (arith, o.fewer)
