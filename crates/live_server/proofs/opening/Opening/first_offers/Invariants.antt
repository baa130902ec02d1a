use Rattle.std.proofs.Common.{length}
use Rattle.live_server.proofs.opening.Opening.first_offers.Given as goal

abbrev pub decreases-messages : goal.decreases-messages
decreases-messages l = length l.self.splitter.rest
