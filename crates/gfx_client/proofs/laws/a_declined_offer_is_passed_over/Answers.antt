use Rattle.std.proofs.Common.{refl}
use Rattle.gfx_import.specs.Messages.{message_text}
use Rattle.gfx_layout.specs.Header.{header}
use Rattle.gfx_layout.specs.Shape.{text}
use Rattle.gfx_segment.specs.Framing.{message_of, prefixed, wrapped}
use Rattle.gfx_segment.specs.Whole.{streamed_within}
use Rattle.gfx_client.proofs.laws.a_declined_offer_is_passed_over.Goals as goal

pub returns-clause-reply : goal.returns-clause-reply
unfolding wrapped message_of prefixed streamed_within message_text header text
returns-clause-reply c = refl
