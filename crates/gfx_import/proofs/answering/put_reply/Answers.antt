use Rattle.std.proofs.Common.{◌≡◌, ◌∙◌, ◌++◌, ◌+◌, ◌*◌, ap, sym, length, arith}
use Rattle.gfx_layout.specs.Shape.{text, number_alone, u16}
use Rattle.gfx_import.specs.declared.limits.TheConstants.{REPLY}
use Rattle.gfx_import.specs.Messages.{slots_of}
use Rattle.gfx_import.proofs.WritingLemmas.{puts_message, length-numbers}
use Rattle.gfx_import.proofs.answering.put_reply.Goals as goal

pub returns : goal.returns
returns c =
    let long : c.args.count ≡ length (slots_of c.args.count) = sym (length-numbers 1 c.args.count) in
    let size : 2 + 2 * c.from.result ≡ 2 + length (slots_of c.args.count) * 2 = omega (arith, c.from.ensures) in
    puts_message (number_alone u16) REPLY (slots_of c.args.count) c.put_slots.result c.args.out.now c.put_header.new.out c.put.new.out c.put_slots.new.out (2 + 2 * c.from.result) size
    c.in_ok-put_header.ensures (c.in_ok-put.ensures.ok ∙ ap (λ n. c.put_header.new.out ++ text (number_alone u16) n) long) c.put_slots.ensures
