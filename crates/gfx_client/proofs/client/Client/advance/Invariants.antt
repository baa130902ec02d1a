use Rattle.std.proofs.Common.{◌≡◌, [], length}
use Rattle.gfx_client.specs.Client.{cursor_of, damage_of, is_living, offers_of, Moves}
use Rattle.gfx_client.proofs.client.Client.advance.Given as goal

abbrev pub invariant-messages : goal.invariant-messages
invariant-messages l = Moves l.fn.self l.self [] × (offers_of l.self ≡ offers_of l.fn.self) × (damage_of l.self ≡ damage_of l.fn.self) × (is_living l.self ≡ is_living l.fn.self)

abbrev pub decreases-messages : goal.decreases-messages
decreases-messages l = length (cursor_of l.self).splitter.rest
