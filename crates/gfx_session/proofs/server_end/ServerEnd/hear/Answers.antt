use Rattle.std.proofs.Common.{length, refl, ap, ◌∙◌, arith}
use Rattle.std.proofs.lemmas.Result.{err_from_is_err_and}
use Rattle.gfx_session.proofs.Midway.{begins, untold, splitter_fails, waits, one, message_fails, message_done, leaves_on, leaves_start}
use Rattle.gfx_session.proofs.server_end.ServerEnd.hear.Goals as goal

pub returns-in_err-feed-clause-hears : goal.returns-in_err-feed-clause-hears
returns-in_err-feed-clause-hears c =
    let p = err_from_is_err_and c.from_residual.result c.from_residual.ensures.1 in
    rw (p.1, p.2) (λ at s. untold c.args.self.now.script at c.args.piece.now c.args.out.now)

pub messages-init : goal.messages-init
messages-init c =
    ((λ at s. begins c.args.self.now c.feed.new.self at c.args.piece.now c.args.out.now c.args.taken.now.items c.requires c.in_ok-feed.ensures.ok s), leaves_start c.args.self.now c.feed.new.self c.args.taken.now.items, refl)

pub returns-in_err-message-clause-hears : goal.returns-in_err-message-clause-hears
returns-in_err-message-clause-hears c =
    let p = err_from_is_err_and c.from_residual-in_err-message.result c.from_residual-in_err-message.ensures.1 in
    rw (p.1, p.2) (splitter_fails c.args.self.now c.messages.self c.next_raw.new.self c.args.piece.now c.args.out.now c.messages.out c.args.taken.now.items c.messages.taken.items c.in_err-message.field-0.0 c.messages.invariant.0 c.in_err-message.ensures.exact)

pub returns-in_default-clause-hears : goal.returns-in_default-clause-hears
returns-in_default-clause-hears c = λ at s.
    waits c.args.self.now.script at c.args.piece.now c.args.out.now c.messages.out c.args.taken.now.items c.messages.taken.items c.messages.self c.next_raw.new.self (c.messages.invariant.0 at s) (rw c.in_default.is at c.in_ok-message.ensures.exact)

pub returns-in_err-obey-clause-hears : goal.returns-in_err-obey-clause-hears
returns-in_err-obey-clause-hears c =
    let p = err_from_is_err_and c.from_residual-in_err-obey.result c.from_residual-in_err-obey.ensures.1 in
    let o = one c.messages.self.splitter c.next_raw.new.self c.in-Some.message (rw c.in-Some.is at c.in_ok-message.ensures.exact) in
    rw (p.1, p.2) (message_fails c.args.self.now c.messages.self c.obey.new.self c.next_raw.new.self c.args.piece.now c.args.out.now c.messages.out c.obey.new.out c.args.taken.now.items c.messages.taken.items c.obey.new.taken.items c.as_slice.result.now c.in-Some.message
    c.in_err-obey.field-0.0 c.messages.invariant.0 o c.messages.invariant.1.plans.script c.as_slice.ensures c.in_err-obey.ensures.obeys)

pub messages-smaller : goal.messages-smaller
messages-smaller c =
    let o = one c.messages.self.splitter c.next_raw.new.self c.in-Some.message (rw c.in-Some.is at c.in_ok-message.ensures.exact) in
    omega (arith, o.fewer, ap (λ z. length z.rest) c.in_ok-obey.ensures.held)

pub messages-preserved : goal.messages-preserved
messages-preserved c =
    let o = one c.messages.self.splitter c.next_raw.new.self c.in-Some.message (rw c.in-Some.is at c.in_ok-message.ensures.exact) in (
      message_done c.args.self.now c.messages.self c.obey.new.self c.next_raw.new.self c.args.piece.now c.args.out.now c.messages.out c.obey.new.out c.args.taken.now.items c.messages.taken.items c.obey.new.taken.items c.as_slice.result.now c.in-Some.message
          c.messages.invariant.0 o c.messages.invariant.1.plans.script c.as_slice.ensures c.in_ok-obey.ensures.held c.in_ok-obey.ensures.obeys,
      leaves_on c.args.self.now c.messages.self c.obey.new.self c.next_raw.new.self c.args.taken.now.items c.messages.taken.items c.obey.new.taken.items c.messages.invariant.1 c.in_ok-obey.ensures.plan,
      c.in_ok-obey.ensures.open ∙ c.messages.invariant.2,
    )
