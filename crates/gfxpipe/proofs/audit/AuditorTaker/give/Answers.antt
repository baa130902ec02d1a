use Rattle.std.proofs.Common.{refl, ◌++◌}
use Rattle.gfx_client.proofs.Bringing.{brought_drained}
use Rattle.gfx_state.specs.History.{history_of}
use Rattle.gfx_state.specs.State.{fresh}
use Rattle.gfxpipe.proofs.Auditing.{open_taken, heard, not_heard}
use Rattle.gfxpipe.proofs.audit.AuditorTaker.give.Goals as goal

pub tell_all-requires : goal.tell_all-requires
tell_all-requires g c = open_taken _ c.args.self.now.client c.take.new.self c.args.piece.now c.in-Ok.ensures.takes

pub returns-in_default : goal.returns-in_default
returns-in_default g c = λ bytes before held there wrote. not_heard _ (record { client = c.take.new.self; number = c.args.self.now.number }) bytes c.args.piece.now wrote

pub returns : goal.returns
returns g c = λ bytes before held there wrote.
    heard before (g.O.Sink.faults c.args.out.now) (g.O.Sink.faults c.tell_all.new.out) held (g.O.Sink.held c.args.out.now) (g.O.Sink.held c.tell_all.new.out) c.args.self.now (record { client = c.take.new.self; number = c.args.self.now.number }) c.tell_all.new.auditor
    bytes (bytes ++ c.args.piece.now) c.tell_all.result there wrote (c.in-Ok.ensures.stands fresh bytes there.0.0)
    (c.in-Ok.ensures.brought fresh bytes (history_of bytes) there.0.0 (brought_drained fresh c.args.self.now.client bytes there.0.1)) refl c.tell_all.ensures
