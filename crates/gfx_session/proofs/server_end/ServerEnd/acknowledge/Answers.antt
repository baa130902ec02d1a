use Rattle.std.proofs.Common.{◌∙◌, ap}
use Rattle.std.proofs.lemmas.Result.{err_from_is_err_and}
use Rattle.gfx_session.proofs.Messages.{not_oldest, shows_frame, leaves_shown, leaves_unnoted}
use Rattle.gfx_session.specs.declared.server_end.ServerEnd.{ServerEnd}
use Rattle.gfx_session.proofs.server_end.ServerEnd.acknowledge.Goals as goal

pub returns-in_err-step-clause-obeys : goal.returns-in_err-step-clause-obeys
returns-in_err-step-clause-obeys c = λ now.
    let p = err_from_is_err_and c.from_residual.result c.from_residual.ensures.1 in
    rw (p.1, p.2) (not_oldest c.args.self.now c.acknowledge.new.self now c.args.taken.now.items c.args.depth c.args.frame c.in_err-step.field-0.0 c.in_err-step.ensures.err c.in_err-step.ensures.value)

pub returns-in_err-note_shown-clause-plan : goal.returns-in_err-note_shown-clause-plan
returns-in_err-note_shown-clause-plan c =
    leaves_unnoted c.args.self.now c.note_shown.new.self c.acknowledge.new.self c.args.taken.now.items c.note_shown.new.taken.items c.args.depth c.args.frame c.in_ok-step.step c.in_ok-step.ensures.value
    c.in_err-note_shown.ensures.alone c.in_err-note_shown.ensures.err

pub returns-clause-obeys : goal.returns-clause-obeys
returns-clause-obeys c = λ now.
    shows_frame c.args.self.now c.note_shown.new.self c.keep_watched.new.self c.acknowledge.new.self c.args.taken.now.items c.note_shown.new.taken.items c.args.depth c.args.frame c.in_ok-step.step now record {
      found = c.in_ok-step.ensures.value;
      first = c.in_ok-note_shown.ensures.alone;
      second = c.keep_watched.ensures.alone;
      behind = c.in_ok-note_shown.ensures.left;
      left = c.keep_watched.ensures.ends;
      pushed = c.in_ok-note_shown.ensures.noted;
    }

pub returns-clause-plan : goal.returns-clause-plan
returns-clause-plan c =
    leaves_shown c.args.self.now c.note_shown.new.self c.keep_watched.new.self c.acknowledge.new.self c.args.taken.now.items c.note_shown.new.taken.items c.args.depth c.args.frame c.in_ok-step.step record {
      found = c.in_ok-step.ensures.value;
      first = c.in_ok-note_shown.ensures.alone;
      second = c.keep_watched.ensures.alone;
      behind = c.in_ok-note_shown.ensures.left;
      left = c.keep_watched.ensures.ends;
      pushed = c.in_ok-note_shown.ensures.noted;
    }

pub returns-clause-open : goal.returns-clause-open
returns-clause-open c = ap (λ (z : ServerEnd). z.closed) c.keep_watched.ensures.alone ∙ ap (λ (z : ServerEnd). z.closed) c.in_ok-note_shown.ensures.alone

pub returns-clause-held : goal.returns-clause-held
returns-clause-held c = ap (λ (z : ServerEnd). z.splitter) c.keep_watched.ensures.alone ∙ ap (λ (z : ServerEnd). z.splitter) c.in_ok-note_shown.ensures.alone
