use Rattle.std.proofs.Common.{sym, ◌∙◌}
use Rattle.gfx_state.proofs.Moves.{drained_by_none, needs_nothing}
use Rattle.gfx_client.specs.Client.{cursor_of, closed_by}
use Rattle.gfx_client.proofs.ClientLemmas.{end_ok, end_refused, left_waiting}
use Rattle.gfx_client.proofs.Playing.{end_is}
use Rattle.gfx_client.proofs.client.Client.finish.Goals as goal

pub finish-requires-clause-drained : goal.finish-requires-clause-drained
finish-requires-clause-drained c = drained_by_none c.args.self.now.payloads.splitter (needs_nothing (cursor_of c.args.self.now) (c.requires c.in_default.is))

pub finish-requires-clause-end : goal.finish-requires-clause-end
finish-requires-clause-end c = left_waiting (cursor_of c.args.self.now) (c.requires c.in_default.is)

pub returns-in-Ok-clause-exact : goal.returns-in-Ok-clause-exact
returns-in-Ok-clause-exact c = end_ok c.args.self.now c.in_default.is (c.requires c.in_default.is) (sym c.in-Ok.ensures)

pub returns-in-Ok-clause-ends : goal.returns-in-Ok-clause-ends
returns-in-Ok-clause-ends c = λ origin bytes s.
    end_ok c.args.self.now c.in_default.is (c.requires c.in_default.is) (sym c.in-Ok.ensures)
    ∙ end_is (closed_by c.args.self.now) c.args.self.now bytes c.requires s

pub returns-in-Err-clause-exact : goal.returns-in-Err-clause-exact
returns-in-Err-clause-exact c = end_refused c.args.self.now _ _ c.in_default.is (c.requires c.in_default.is) (sym c.in-Err.ensures) c.saturating_add.ensures

pub returns-in-Err-clause-ends : goal.returns-in-Err-clause-ends
returns-in-Err-clause-ends c = λ origin bytes s.
    end_refused c.args.self.now _ _ c.in_default.is (c.requires c.in_default.is) (sym c.in-Err.ensures) c.saturating_add.ensures
    ∙ end_is (closed_by c.args.self.now) c.args.self.now bytes c.requires s
