use Rattle.std.proofs.Common.{◌≡◌, ◌++◌, length, ap, ◌∙◌, subst, arith}
use Rattle.gfx_layout.specs.Shape.{digits, u32}
use Rattle.gfx_pdu.specs.Spelling.{spelling}
use Rattle.gfx_pdu.specs.declared.pdu.Pdu.TheVariants.{CapsConfirm}
use Rattle.gfx_segment.specs.Framing.{wrapped}
use Rattle.std.specs.Prelude.{OnOk}
use Rattle.gfx_session.proofs.Messages.{confirm_spellable, confirm_short, one_sent}
use Rattle.gfx_schedule.specs.Hearing.{confirm}
use Rattle.gfx_session.proofs.server_end.listening.put_confirmation.Goals as goal

pub write_pdu-requires : goal.write_pdu-requires
write_pdu-requires c =
    let word : c.append.new.self ≡ digits u32 c.args.chosen.flags = c.in_ok-append.ensures.ok ∙ ap (λ z. z ++ c.to_le_bytes.result) c.new-payload.ensures ∙ c.to_le_bytes.ensures in
    confirm_spellable c.args.chosen.version c.append.new.self (omega (arith, ap length word))

pub wrap-requires : goal.wrap-requires
wrap-requires c =
    let word : c.append.new.self ≡ digits u32 c.args.chosen.flags = c.in_ok-append.ensures.ok ∙ ap (λ z. z ++ c.to_le_bytes.result) c.new-payload.ensures ∙ c.to_le_bytes.ensures in
    let bytes = c.as_slice.ensures ∙ c.in_ok-write_pdu.ensures.ok ∙ ap (λ z. z ++ spelling (CapsConfirm c.args.chosen.version c.append.new.self)) c.new-message.ensures in
    confirm_short c.args.chosen.version c.append.new.self c.as_slice.result.now bytes (omega (arith, ap length word))

pub returns-clause-ok : goal.returns-clause-ok
returns-clause-ok c =
    let word : c.append.new.self ≡ digits u32 c.args.chosen.flags = c.in_ok-append.ensures.ok ∙ ap (λ z. z ++ c.to_le_bytes.result) c.new-payload.ensures ∙ c.to_le_bytes.ensures in
    let bytes = c.as_slice.ensures ∙ c.in_ok-write_pdu.ensures.ok ∙ ap (λ z. z ++ spelling (CapsConfirm c.args.chosen.version c.append.new.self)) c.new-message.ensures ∙ ap (λ z. spelling (CapsConfirm c.args.chosen.version z)) word in
    subst (λ z. OnOk c.wrap.result (c.wrap.new.out ≡ c.args.out.now ++ z)) (ap wrapped bytes ∙ one_sent (confirm c.args.chosen)) c.wrap.ensures.ok
