use Rattle.std.proofs.Common.{arith}
use Rattle.gfx_caps.proofs.SizeLaws.{size-ack, ack_spellable}
use Rattle.gfx_client.proofs.replies.acknowledgement.Goals as goal

pub sent_alone-requires-clause-spellable : goal.sent_alone-requires-clause-spellable
sent_alone-requires-clause-spellable c = ack_spellable 0 c.args.frame c.args.decoded

pub sent_alone-requires-clause-short : goal.sent_alone-requires-clause-short
sent_alone-requires-clause-short c = omega (arith, size-ack 0 c.args.frame c.args.decoded)
