use Rattle.std.proofs.Common.{[], refl, sym, ap, subst, ◌∙◌}
use Rattle.std.proofs.lemmas.Result.{err_from_is_err_and}
use Rattle.gfx_client.specs.Client.{damage_of, IsAtPayloadEnd, Moves}
use Rattle.gfx_client.proofs.ClientLemmas.{not_moved, moved_on, moved_by, waits, stopped_taking, stopped_opening}
use Rattle.gfx_client.proofs.Wants.{channel_wants, message_wants}
use Rattle.gfx_client.proofs.client.Client.advance.Goals as goal

pub messages-init : goal.messages-init
messages-init c = (not_moved c.args.self.now, refl, refl, refl)

pub returns-in_err-stepped-clause-advances : goal.returns-in_err-stepped-clause-advances
returns-in_err-stepped-clause-advances c =
    let p = err_from_is_err_and c.from_residual.result c.from_residual.ensures.1 in
    rw (p.1, p.2) (stopped_taking c.args.self.now c.messages.self c.take_message.new.self c.in_err-stepped.field-0.0 c.messages.invariant.0 c.messages.invariant.2 c.in_err-stepped.ensures.takes)

pub returns-in-Some-clause-advances : goal.returns-in-Some-clause-advances
returns-in-Some-clause-advances c = moved_by c.args.self.now c.messages.self c.take_message.new.self c.in-Some.stepped c.messages.invariant.0 c.messages.invariant.2 (rw c.in-Some.is at c.in_ok-stepped.ensures.takes)

pub returns-in_err-open_message-clause-advances : goal.returns-in_err-open_message-clause-advances
returns-in_err-open_message-clause-advances c =
    let p = err_from_is_err_and c.from_residual-in_err-open_message.result c.from_residual-in_err-open_message.ensures.1 in
    let none = rw c.in_default.is at c.in_ok-stepped.ensures.takes in
    let moves = subst (λ z. Moves c.args.self.now z []) (sym none.1) c.messages.invariant.0 in
    rw (p.1, p.2) (stopped_opening c.args.self.now c.take_message.new.self c.open_message.new.self c.in_err-open_message.field-0.0 moves (ap damage_of none.1 ∙ c.messages.invariant.2) c.in_err-open_message.ensures.opens)

pub returns-then-not-branch-clause-advances : goal.returns-then-not-branch-clause-advances
returns-then-not-branch-clause-advances c =
    let none = rw c.in_default.is at c.in_ok-stepped.ensures.takes in
    let moves = subst (λ z. Moves c.args.self.now z []) (sym none.1) c.messages.invariant.0 in
    let answer = rw c.if-not-branch.true at c.in_ok-open_message.ensures.opens in
    waits c.args.self.now c.take_message.new.self c.open_message.new.self moves (ap damage_of none.1 ∙ c.messages.invariant.2) answer

pub messages-smaller : goal.messages-smaller
messages-smaller c =
    let none = rw c.in_default.is at c.in_ok-stepped.ensures.takes in
    let opens = rw c.if-not-branch.false at c.in_ok-open_message.ensures.opens in
    rw (← none.1) opens.fewer

pub messages-preserved : goal.messages-preserved
messages-preserved c =
    let none = rw c.in_default.is at c.in_ok-stepped.ensures.takes in
    let moves = subst (λ z. Moves c.args.self.now z []) (sym none.1) c.messages.invariant.0 in
    let opens = rw c.if-not-branch.false at c.in_ok-open_message.ensures.opens in (
      moved_on c.args.self.now c.take_message.new.self c.open_message.new.self moves opens,
      c.in_ok-open_message.ensures.offers ∙ c.in_ok-stepped.ensures.offers ∙ c.messages.invariant.1,
      opens.damage ∙ ap damage_of none.1 ∙ c.messages.invariant.2,
      c.in_ok-open_message.ensures.living ∙ c.in_ok-stepped.ensures.living ∙ c.messages.invariant.3,
    )

pub returns-in_err-stepped-clause-memory : goal.returns-in_err-stepped-clause-memory
returns-in_err-stepped-clause-memory c =
    let p = err_from_is_err_and c.from_residual.result c.from_residual.ensures.1 in
    rw (p.1, p.2) (message_wants c.messages.self c.take_message.new.self c.in_err-stepped.field-0.0 c.in_err-stepped.ensures.takes c.in_err-stepped.ensures.memory)

pub returns-in_err-open_message-clause-memory : goal.returns-in_err-open_message-clause-memory
returns-in_err-open_message-clause-memory c =
    let p = err_from_is_err_and c.from_residual-in_err-open_message.result c.from_residual-in_err-open_message.ensures.1 in
    let none = rw c.in_default.is at c.in_ok-stepped.ensures.takes in
    let end = subst IsAtPayloadEnd (sym none.1) none.0 in
    rw (p.1, p.2) (channel_wants c.take_message.new.self c.open_message.new.self c.in_err-open_message.field-0.0 end c.in_err-open_message.ensures.opens c.in_err-open_message.ensures.memory)
