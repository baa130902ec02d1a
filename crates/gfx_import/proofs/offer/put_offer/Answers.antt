use Rattle.std.proofs.Common.{◌≡◌, ◌∙◌, ◌++◌, ◌+◌, ◌*◌, ap, sym, length, arith}
use Rattle.std.proofs.lemmas.List.{length-map}
use Rattle.gfx_layout.specs.Shape.{text, number_alone, u16}
use Rattle.gfx_import.specs.declared.limits.TheConstants.{OFFER}
use Rattle.gfx_caps.specs.Entries.{cache_entry}
use Rattle.gfx_import.specs.Offered.{offered_of, offers_of}
use Rattle.gfx_import.proofs.WritingLemmas.{puts_message}
use Rattle.gfx_import.proofs.offer.put_offer.Goals as goal

pub returns-clause-puts : goal.returns-clause-puts
returns-clause-puts c =
    let long : c.len-count.result ≡ length (offers_of c.args.kept.now) = c.len-count.ensures.len ∙ sym (length-map c.args.kept.now offered_of) in
    let size : 2 + 12 * c.len-count.result ≡ 2 + length (offers_of c.args.kept.now) * 12 = omega arith in
    puts_message cache_entry OFFER (offers_of c.args.kept.now) c.put_offers.result c.args.out.now c.put_header.new.out c.put.new.out c.put_offers.new.out (2 + 12 * c.len-count.result) size
    c.in_ok-put_header.ensures (c.in_ok-put.ensures.ok ∙ ap (λ n. c.put_header.new.out ++ text (number_alone u16) n) long) c.put_offers.ensures
