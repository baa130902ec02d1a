use Rattle.std.proofs.Common.{◌∙◌, ap, sym}
use Rattle.gfx_bitmap_cache.specs.Slots.{entry, image_of}
use Rattle.gfx_import.specs.Agreed.{agrees, agree}
use Rattle.gfx_import.proofs.TakingLemmas.{rest-at, rest-past}
use Rattle.gfx_import.proofs.AgreementLemmas.{agree_more, agree_stop}
use Rattle.gfx_import.proofs.agreement.agree.Goals as goal

pub entries-preserved : goal.entries-preserved
entries-preserved c =
    let one = entry c.in-Some.key (image_of c.in-Some.bitmap.now) in
    agree_more c.args.server.now c.args.client.now _ _ one (rest-at c.args.client.now c.entries.place one (sym c.in-Some.ensures.found)) c.entries.invariant
    (ap (agrees one.image) (sym c.find.ensures.found) ∙ sym c.agrees.ensures ∙ c.if-not-agrees.false)

pub returns-then-not-agrees : goal.returns-then-not-agrees
returns-then-not-agrees c =
    let one = entry c.in-Some.key (image_of c.in-Some.bitmap.now) in
    agree_stop c.args.server.now c.args.client.now _ _ one (rest-at c.args.client.now c.entries.place one (sym c.in-Some.ensures.found)) c.entries.invariant
    (ap (agrees one.image) (sym c.find.ensures.found) ∙ sym c.agrees.ensures ∙ c.if-not-agrees.true)

pub returns : goal.returns
returns c = ap (agree c.args.server.now) (sym (rest-past c.args.client.now c.entries.place (sym c.in_default.ensures.found))) ∙ c.entries.invariant
