use Rattle.gfx_import.specs.Started.{cache_by}
use Rattle.gfx_session.proofs.KeptClient.{begins_with}
use Rattle.gfx_session.proofs.importing.take_answer.Goals as goal

pub returns-in-Ok-clause-stands : goal.returns-in-Ok-clause-stands
returns-in-Ok-clause-stands c = begins_with (cache_by c.args.kept.now c.args.answer.now c.args.small) c.args.client.now c.import.new.self c.in-Ok.ensures.imports
