use Rattle.std.proofs.Common.{◌∙◌, sym}
use Rattle.std.proofs.lemmas.Result.{err_from_is_err_and}
use Rattle.gfx_bitmap_cache.specs.Slots.{entry, image_of}
use Rattle.gfx_import.proofs.StartedLemmas.{stores-short, stores-more, stores-fails, stores-end}
use Rattle.gfx_import.proofs.importing.store_at.Goals as goal

pub returns-in_default-at : goal.returns-in_default-at
returns-in_default-at c =
    stores-short c.slots.cache _ c.args.slots.now c.args.kept.now c.slots.place c.in-Some.slot c.slots.invariant (sym c.in-Some.ensures) (sym c.in_default-at.ensures.found)

pub returns-in_err-store_copy : goal.returns-in_err-store_copy
returns-in_err-store_copy c =
    let p = err_from_is_err_and c.from_residual.result c.from_residual.ensures.1 in
    let one = entry c.in-Some-at.key (image_of c.in-Some-at.bitmap.now) in
    rw (p.1, p.2) (stores-fails c.slots.cache _ c.args.slots.now c.args.kept.now c.slots.place c.in-Some.slot c.slots.invariant (sym c.in-Some.ensures)
    one c.in_err-store_copy.field-0.0 c.store_copy.new.cache (sym c.in-Some-at.ensures.found) c.in_err-store_copy.ensures)

pub slots-preserved : goal.slots-preserved
slots-preserved c =
    let one = entry c.in-Some-at.key (image_of c.in-Some-at.bitmap.now) in
    stores-more c.slots.cache _ c.args.slots.now c.args.kept.now c.slots.place c.in-Some.slot c.slots.invariant (sym c.in-Some.ensures)
    one c.store_copy.new.cache (sym c.in-Some-at.ensures.found) c.in_ok-store_copy.ensures

pub returns : goal.returns
returns c = stores-end c.slots.cache _ c.args.slots.now c.args.kept.now c.slots.place c.slots.invariant (sym c.get.ensures ∙ c.in_default.is)
