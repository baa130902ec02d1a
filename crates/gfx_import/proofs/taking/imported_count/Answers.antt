use Rattle.std.proofs.Common.{◌∙◌, ap, sym, not}
use Rattle.gfx_bitmap_cache.specs.Slots.{entry, image_of}
use Rattle.gfx_import.specs.Entries.{image_at}
use Rattle.gfx_import.specs.Offered.{offered_of, offers_of}
use Rattle.gfx_import.specs.Imported.{with_length}
use Rattle.gfx_import.specs.Taking.{found_in}
use Rattle.gfx_import.proofs.TakingLemmas.{offers-at, offers-past, counts-none, counts-more, counts-stop, counts-end}
use Rattle.gfx_import.proofs.taking.imported_count.Goals as goal

pub entries-init : goal.entries-init
entries-init c = counts-none c.args.server.now (offers_of c.args.client.now) c.args.small c.new-room.result.slots c.new-room.result.bytes c.new-room.ensures.slots c.new-room.ensures.bytes

pub entries-preserved : goal.entries-preserved
entries-preserved c =
    let one = entry c.in-Some.key (image_of c.in-Some.bitmap.now) in
    counts-more c.args.server.now (offers_of c.args.client.now) _ _ c.args.small c.entries.count _ _ (offered_of one) (offers-at _ c.entries.count one (sym c.in-Some.ensures.found)) c.entries.invariant
    c.take.new.self.slots c.take.new.self.bytes c.take.result
    record {
      found = c.take.ensures.found ∙ ap (λ n. found_in c.entries.room.slots c.entries.room.bytes (with_length n (image_at c.args.server.now c.in-Some.key))) c.bytes_for-length.ensures.bytes;
      slots_left = c.take.ensures.slots;
      room_left = c.take.ensures.bytes;
    }
    (c.is_none.ensures ∙ ap not c.if-is_none.false)

pub returns-then-is_none-clause-count : goal.returns-then-is_none-clause-count
returns-then-is_none-clause-count c =
    let one = entry c.in-Some.key (image_of c.in-Some.bitmap.now) in
    counts-stop c.args.server.now (offers_of c.args.client.now) _ _ c.args.small c.entries.count _ _ (offered_of one) (offers-at _ c.entries.count one (sym c.in-Some.ensures.found)) c.entries.invariant
    c.take.new.self.slots c.take.new.self.bytes c.take.result
    record {
      found = c.take.ensures.found ∙ ap (λ n. found_in c.entries.room.slots c.entries.room.bytes (with_length n (image_at c.args.server.now c.in-Some.key))) c.bytes_for-length.ensures.bytes;
      slots_left = c.take.ensures.slots;
      room_left = c.take.ensures.bytes;
    }
    (c.is_none.ensures ∙ ap not c.if-is_none.true)

pub returns-clause-count : goal.returns-clause-count
returns-clause-count c =
    counts-end c.args.server.now (offers_of c.args.client.now) _ c.args.small c.entries.count _ _
    (offers-past _ c.entries.count (sym c.in_default.ensures.found)) c.entries.invariant
