use Rattle.std.proofs.Common.{length, ◌++◌, ap, ◌∙◌, arith}
use Rattle.gfx_caps.specs.Spelling.{spelling}
use Rattle.gfx_caps.proofs.SizeLaws.{length-spelling}
use Rattle.gfx_client.proofs.replies.sent_alone.Goals as goal

pub prefix-requires : goal.prefix-requires
prefix-requires c =
    let whole = c.as_slice.ensures ∙ c.in_ok-write_client.ensures.ok ∙ ap (λ z. z ++ spelling c.args.pdu.now) c.new-message.ensures in
    omega (arith, ap length whole, length-spelling c.args.pdu.now, c.requires.short)
