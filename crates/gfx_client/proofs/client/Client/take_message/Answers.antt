use Rattle.std.proofs.Common.{ℕ, ◌+◌, ◌%◌, ◌^◌, List, Err, Option, refl, sym, ap, ◌∙◌, subst}
use Rattle.std.proofs.lemmas.Result.{err_from_is_err_and}
use Rattle.gfx_base.proofs.Wanting.{wants_any}
use Rattle.gfx_base.specs.Outcome.{Gives, WantsOnlyIf}
use Rattle.gfx_layout.specs.Header.{is_headed}
use Rattle.gfx_pdu.proofs.Laws.{next_pdu-headed}
use Rattle.gfx_pdu.specs.Borrowed.{pdu_of, found_in, message_in}
use Rattle.gfx_pdu.specs.Id.{id_of_number}
use Rattle.gfx_pdu.specs.Reading.{next_pdu}
use Rattle.gfx_pdu.specs.declared.pdu.PduRef.{PduRef}
use Rattle.gfx_state.proofs.NextMoves.{next_pdu_none}
use Rattle.gfx_client.proofs.ClientLemmas.{unread, not_applied, taken}
use Rattle.gfx_client.proofs.Wants.{wants_passed}
use Rattle.gfx_client.specs.declared.stepped.Stepped.{Stepped}
use Rattle.gfx_client.proofs.client.Client.take_message.Goals.{in-Other+in-WireToSurface1-2, in-Other+in-WireToSurface2-2, in-Other+in-SolidFill-2, in-Other+in-SurfaceToSurface-2, in-Other+in-CacheToSurface-2, in-Other+in-ResetGraphics-2, in-Other+in-CapsConfirm-2, in-Other+in-DeleteEncodingContext-2, in-WireToSurface1-2}
use Rattle.gfx_client.proofs.client.Client.take_message.Goals as goal

pub returns-in_err-pdu-clause-takes : goal.returns-in_err-pdu-clause-takes
returns-in_err-pdu-clause-takes c =
    let p = err_from_is_err_and c.from_residual.result c.from_residual.ensures.1 in
    let due = subst (λ (z : List ℕ). Gives found_in (Err c.in_err-pdu.field-0.0) (next_pdu z 0)) c.left.ensures c.in_err-pdu.ensures.value in
    rw (p.1, p.2) (unread c.args.self.now c.in_err-pdu.field-0.0 due)

pub returns-in_default-clause-takes : goal.returns-in_default-clause-takes
returns-in_default-clause-takes c =
    let read = ap (λ (z : List ℕ). next_pdu z 0) (sym c.left.ensures) ∙ c.in_ok-pdu.ensures.value in
    (next_pdu_none c.args.self.now.payloads.left 0 (rw c.in_default.is at read), refl)

pub returns-in_err-apply-clause-takes : goal.returns-in_err-apply-clause-takes
returns-in_err-apply-clause-takes c =
    let p = err_from_is_err_and c.from_residual-in_err-apply.result c.from_residual-in_err-apply.ensures.1 in
    let read = ap (λ (z : List ℕ). next_pdu z 0) (sym c.left.ensures) ∙ c.in_ok-pdu.ensures.value in
    let stays = not_applied c.args.self.now (pdu_of c.in-Some.pdu) c.in-Some.size c.in_err-apply.field-0.0 c.apply.new.state c.apply.new.self (rw c.in-Some.is at read) c.in_err-apply.ensures.applies c.in_err-apply.ensures.kept in
    rw (p.1, p.2)
    (elim c.match-pdu-3.branch [
      | in-Other+in-WireToSurface1-2 w ↦ rw w.self-is stays
      | in-Other+in-WireToSurface2-2 w ↦ rw w.self-is stays
      | in-Other+in-SolidFill-2 w ↦ rw w.self-is stays
      | in-Other+in-SurfaceToSurface-2 w ↦ rw w.self-is stays
      | in-Other+in-CacheToSurface-2 w ↦ rw w.self-is stays
      | in-Other+in-ResetGraphics-2 w ↦ rw w.self-is stays
      | in-Other+in-CapsConfirm-2 w ↦ rw w.self-is stays
      | in-Other+in-DeleteEncodingContext-2 w ↦ rw w.self-is stays
      | in-WireToSurface1-2 w ↦ rw w.self-is stays
    ])

pub returns-clause-takes : goal.returns-clause-takes
returns-clause-takes c =
    let read = ap (λ (z : List ℕ). next_pdu z 0) (sym c.left.ensures) ∙ c.in_ok-pdu.ensures.value in
    taken c.args.self.now (pdu_of c.in-Some.pdu) c.in-Some.size _ _ c.pass.new.self c.apply.new.state c.apply.new.self _ (rw c.in-Some.is at read) c.in_ok-apply.ensures.applies c.pass.ensures c.saturating_add-self.ensures
    (ap (λ n. (n + 1) % 2 ^ 32) c.decoded.ensures)
    (c.stepped_of-stepped.ensures (pdu_of c.in-Some.pdu) _ c.id.ensures c.in_ok-reply.ensures)
    c.in_ok-apply.ensures.notes

pub returns-in_err-pdu-clause-memory : goal.returns-in_err-pdu-clause-memory
returns-in_err-pdu-clause-memory c =
    let p = err_from_is_err_and c.from_residual.result c.from_residual.ensures.1 in
    let headed = ap (λ (z : List ℕ). is_headed id_of_number z) c.left.ensures in
    rw (p.1, p.2) (subst (λ may. WantsOnlyIf {X = Option Stepped} (Err c.in_err-pdu.field-0.0) may) headed (wants_passed (Option (PduRef × ℕ)) (Option Stepped) c.in_err-pdu.field-0.0 _ c.in_err-pdu.ensures.memory))

pub returns-in_err-reply-clause-memory : goal.returns-in_err-reply-clause-memory
returns-in_err-reply-clause-memory c =
    let read = ap (λ (z : List ℕ). next_pdu z 0) (sym c.left.ensures) ∙ c.in_ok-pdu.ensures.value in
    wants_any c.from_residual-in_err-reply.result _ (next_pdu-headed c.args.self.now.payloads.left 0 (message_in (c.in-Some.pdu, c.in-Some.size)) (rw c.in-Some.is at read))

pub returns-in_err-apply-clause-memory : goal.returns-in_err-apply-clause-memory
returns-in_err-apply-clause-memory c =
    let read = ap (λ (z : List ℕ). next_pdu z 0) (sym c.left.ensures) ∙ c.in_ok-pdu.ensures.value in
    wants_any c.from_residual-in_err-apply.result _ (next_pdu-headed c.args.self.now.payloads.left 0 (message_in (c.in-Some.pdu, c.in-Some.size)) (rw c.in-Some.is at read))
