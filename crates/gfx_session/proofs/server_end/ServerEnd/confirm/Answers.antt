use Rattle.std.proofs.Common.{sym, ◌∙◌}
use Rattle.std.proofs.lemmas.Result.{err_from_is_err_and}
use Rattle.gfx_session.proofs.Messages.{not_chosen, not_small, chosen}
use Rattle.gfx_session.proofs.server_end.ServerEnd.confirm.Goals as goal

pub returns-in_err-chosen-clause-obeys : goal.returns-in_err-chosen-clause-obeys
returns-in_err-chosen-clause-obeys c = λ has.
    let p = err_from_is_err_and c.from_residual.result c.from_residual.ensures.1 in
    rw (p.1, p.2) (not_chosen c.args.self.now.script c.args.self.now c.args.out.now has c.in_err-chosen.field-0.0 _ (sym c.in_err-chosen.ensures))

pub returns-then-is_too_small-clause-obeys : goal.returns-then-is_too_small-clause-obeys
returns-then-is_too_small-clause-obeys c = λ has.
    not_small c.args.self.now.script c.args.self.now c.args.out.now has c.in_ok-chosen.chosen _ (sym c.in_ok-chosen.ensures) (sym c.is_too_small.ensures ∙ c.if-is_too_small.true)

pub returns-clause-obeys : goal.returns-clause-obeys
returns-clause-obeys c = λ has.
    chosen c.args.self.now.script c.args.self.now c.args.out.now c.put_confirmation.new.out has c.in_ok-chosen.chosen _ (sym c.in_ok-chosen.ensures) (sym c.is_too_small.ensures ∙ c.if-is_too_small.false) c.in_ok-put_confirmation.ensures.ok
