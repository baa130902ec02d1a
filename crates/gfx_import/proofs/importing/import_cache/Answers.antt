use Rattle.gfx_base.proofs.Wanting.{wants_any}
use Rattle.gfx_import.specs.declared.limits.TheConstants.{REPLY}
use Rattle.gfx_import.specs.Messages.{import_reply, is_headed}
use Rattle.gfx_import.proofs.MessageLemmas.{headed-ok}
use Rattle.gfx_import.proofs.importing.import_cache.Goals as goal

pub returns-clause-memory : goal.returns-clause-memory
returns-clause-memory c =
    wants_any c.store_at.result (is_headed REPLY c.args.reply.now) (headed-ok REPLY import_reply c.args.reply.now c.in_ok-slots.slots c.in_ok-slots.ensures.value)
