use Rattle.std.proofs.Common.{◌≡◌, ◌∙◌, ap, sym, Some}
use Rattle.gfx_bitmap_cache.specs.Slots.{entry, image_of}
use Rattle.gfx_import.proofs.TakingLemmas.{imported-at, imported-there}
use Rattle.gfx_import.proofs.taking.imported_at.Goals as goal

pub returns-in_err-key : goal.returns-in_err-key
returns-in_err-key c small below = absurd (imported-there c.args.server.now c.args.client.now small c.args.place (sym c.in_err-key.ensures.found) below)

pub returns-in_err-bitmap : goal.returns-in_err-bitmap
returns-in_err-bitmap c small below =
    let is = imported-at c.args.server.now c.args.client.now small c.args.place c.in_ok-key.key (image_of c.in_ok-key.field-0-1.now) _ (sym c.in_ok-key.ensures.found) c.in_err-bitmap.ensures.found below in
    let some = is.1 in
    absurd cc

pub returns : goal.returns
returns c small below =
    let is = imported-at c.args.server.now c.args.client.now small c.args.place c.in_ok-key.key (image_of c.in_ok-key.field-0-1.now) _ (sym c.in_ok-key.ensures.found) c.in_ok-bitmap.ensures.found below in
    let same : image_of c.in_ok-bitmap.bitmap.now ≡ is.0 = let some = is.1 in cc in
    ap (λ z. Some (entry c.in_ok-key.key z)) same ∙ sym is.2
