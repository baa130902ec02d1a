use Rattle.gfx_import.specs.Messages.{taken_of}
use Rattle.gfx_session.proofs.KeptClient.{replied}
use Rattle.gfx_session.proofs.importing.answer_offer.Goals as goal

pub returns-in-Ok : goal.returns-in-Ok
returns-in-Ok c = replied (taken_of c.args.server.now c.args.offer.now c.args.small) c.in-Ok.field-0 c.args.out.now c.reply.new.out c.in-Ok.ensures.value c.in-Ok.ensures.ok
