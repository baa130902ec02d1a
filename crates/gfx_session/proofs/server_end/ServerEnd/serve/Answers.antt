use Rattle.std.proofs.Common.{◌∙◌, refl, sym, []}
use Rattle.std.proofs.lemmas.Result.{err_from_is_err_and}
use Rattle.gfx_chooser.specs.Seen.{seen}
use Rattle.gfx_session.proofs.Closing.{spent_end}
use Rattle.gfx_session.proofs.Plans.{may_frame}
use Rattle.gfx_session.proofs.Turning.{with_queued, queued_in_step, ended_turn, turn, turned_is, same_script, still_spent, unqueued, unsent}
use Rattle.gfx_session.proofs.server_end.ServerEnd.serve.Goals as goal

pub returns-then-self-clause-serves : goal.returns-then-self-clause-serves
returns-then-self-clause-serves g c = still_spent c.args.self.now _ [] c.args.out.now _ c.if-self.true

pub returns-then-has_served-clause-serves : goal.returns-then-has_served-clause-serves
returns-then-has_served-clause-serves g c =
    ended_turn c.args.self.now (seen g.C.Chooser.reply g.C.Chooser.is_spent c.args.choosers.now.items) c.args.out.now c.if-self.false (sym c.has_served.ensures ∙ c.if-has_served.true)

pub returns-in_err-last-clause-serves : goal.returns-in_err-last-clause-serves
returns-in_err-last-clause-serves g c =
    let p = err_from_is_err_and c.from_residual.result c.from_residual.ensures.1 in
    rw p.1 (unqueued c.args.self.now c.queue_frame.new.window _ [] c.args.out.now p.0 c.if-self.false c.in_err-last.ensures)

pub returns-in_err-last-clause-is : goal.returns-in_err-last-clause-is
returns-in_err-last-clause-is g c = λ held is. spent_end c.args.self.now _ is refl refl

pub send_frame-requires-clause-may : goal.send_frame-requires-clause-may
send_frame-requires-clause-may g c =
    let mid = with_queued c.args.self.now c.in_ok-last.last c.queue_frame.new.window in
    may_frame mid (queued_in_step c.args.self.now c.in_ok-last.last _ _ c.queue_frame.new.window (c.requires.1.in_step c.if-self.false) c.in_ok-last.ensures)

pub returns-in_err-sent-clause-serves : goal.returns-in_err-sent-clause-serves
returns-in_err-sent-clause-serves g c =
    let p = err_from_is_err_and c.from_residual-in_err-sent.result c.from_residual-in_err-sent.ensures.1 in
    rw p.1 (unsent c.args.self.now c.send_frame.new.self c.in_ok-last.last _ _ c.queue_frame.new.window c.args.out.now c.send_frame.new.out p.0 c.in_err-sent.field-0.0
    c.requires.1 c.if-self.false c.in_ok-last.ensures c.in_err-sent.ensures)

pub returns-in_err-sent-clause-is : goal.returns-in_err-sent-clause-is
returns-in_err-sent-clause-is g c = λ held is. spent_end c.args.self.now c.send_frame.new.self is c.in_err-sent.ensures.1 c.in_err-sent.ensures.2

pub returns-clause-serves : goal.returns-clause-serves
returns-clause-serves g c =
    let mid = with_queued c.args.self.now c.in_ok-last.last c.queue_frame.new.window in
    rw c.turned.ensures (turn c.args.self.now c.send_frame.new.self c.in_ok-last.last _ _ c.queue_frame.new.window c.in_ok-sent.sent c.args.out.now c.send_frame.new.out c.requires.1 c.if-self.false
    (sym c.has_served.ensures ∙ c.if-has_served.false) c.in_ok-last.ensures c.in_ok-sent.ensures (same_script mid c.send_frame.new.self c.in_ok-sent.sent c.args.out.now c.send_frame.new.out c.in_ok-sent.ensures))

pub returns-clause-is : goal.returns-clause-is
returns-clause-is g c = λ held is.
    let mid = with_queued c.args.self.now c.in_ok-last.last c.queue_frame.new.window in
    turned_is c.args.self.now c.send_frame.new.self c.in_ok-last.last _ _ c.queue_frame.new.window c.in_ok-sent.sent c.args.out.now c.send_frame.new.out is c.if-self.false
    c.in_ok-last.ensures c.in_ok-sent.ensures (same_script mid c.send_frame.new.self c.in_ok-sent.sent c.args.out.now c.send_frame.new.out c.in_ok-sent.ensures)
