use Rattle.std.proofs.Common.{◌≡◌, ◌++◌, ap, ◌∙◌, subst}
use Rattle.std.specs.Prelude.{OnOk}
use Rattle.gfx_import.specs.Messages.{reply_text}
use Rattle.gfx_segment.specs.Framing.{wrapped}
use Rattle.gfx_session.proofs.Messages.{reply_short}
use Rattle.gfx_session.proofs.server_end.listening.put_empty_reply.Goals as goal

pub wrap-requires : goal.wrap-requires
wrap-requires c = reply_short c.as_slice.result.now (c.as_slice.ensures ∙ c.in_ok-write_reply.ensures.ok ∙ ap (λ z. z ++ reply_text 0) c.new-message.ensures)

pub returns-clause-ok : goal.returns-clause-ok
returns-clause-ok c =
    let bytes = c.as_slice.ensures ∙ c.in_ok-write_reply.ensures.ok ∙ ap (λ z. z ++ reply_text 0) c.new-message.ensures in
    subst (λ z. OnOk c.wrap.result (c.wrap.new.out ≡ c.args.out.now ++ z)) (ap wrapped bytes) c.wrap.ensures.ok
