use Rattle.gfx_client.proofs.ReplyLemmas.{hello_spellable, hello_short}
use Rattle.gfx_client.proofs.offered.Offered.hello.Goals as goal

pub sent_alone-requires-clause-spellable : goal.sent_alone-requires-clause-spellable
sent_alone-requires-clause-spellable c = hello_spellable c.self.inside.offers c.as_slice.result.now _ c.self.invariant c.as_slice.ensures c.in_ok-message.ensures

pub sent_alone-requires-clause-short : goal.sent_alone-requires-clause-short
sent_alone-requires-clause-short c = hello_short c.self.inside.offers c.as_slice.result.now _ c.self.invariant c.as_slice.ensures c.in_ok-message.ensures
