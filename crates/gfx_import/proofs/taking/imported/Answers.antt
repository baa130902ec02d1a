use Rattle.std.proofs.Common.{◌∙◌, ap, sym, is_some}
use Rattle.gfx_bitmap_cache.specs.Slots.{entry, image_of}
use Rattle.gfx_import.specs.Entries.{image_at}
use Rattle.gfx_import.specs.Imported.{with_length}
use Rattle.gfx_import.specs.Taking.{found_in}
use Rattle.gfx_import.proofs.TakingLemmas.{rest-at, rest-past, gathers-none, gathers-more, gathers-stop, gathers-end}
use Rattle.gfx_import.proofs.taking.imported.Goals as goal

pub entries-init : goal.entries-init
entries-init c = gathers-none c.args.server.now c.args.client.now c.new-kept.result c.args.small _ _ c.new-kept.ensures c.new-room.ensures.slots c.new-room.ensures.bytes

pub entries-preserved : goal.entries-preserved
entries-preserved c =
    let one = entry c.in-Some.key (image_of c.in-Some.bitmap.now) in
    gathers-more c.args.server.now c.args.client.now c.entries.kept _ _ c.args.small _ _ one (rest-at _ c.entries.place one (sym c.in-Some.ensures.found)) c.entries.invariant
    c.take.new.self.slots c.take.new.self.bytes c.in-Some-take.held (image_of c.in_ok-copy.copy) c.add.new.self c.at.ensures.kept
    record {
      found = c.in-Some-take.ensures.found ∙ ap (λ n. found_in c.entries.room.slots c.entries.room.bytes (with_length n (image_at c.args.server.now c.in-Some.key))) c.bytes_for-length.ensures.bytes;
      slots_left = c.in-Some-take.ensures.slots;
      room_left = c.in-Some-take.ensures.bytes;
    }
    c.in_ok-copy.ensures c.in_ok-add.ensures.ok

pub returns-in_default-take : goal.returns-in_default-take
returns-in_default-take c =
    let one = entry c.in-Some.key (image_of c.in-Some.bitmap.now) in
    gathers-stop c.args.server.now c.args.client.now c.entries.kept _ _ c.args.small _ _ one (rest-at _ c.entries.place one (sym c.in-Some.ensures.found)) c.entries.invariant
    c.take.new.self.slots c.take.new.self.bytes c.take.result
    record {
      found = c.take.ensures.found ∙ ap (λ n. found_in c.entries.room.slots c.entries.room.bytes (with_length n (image_at c.args.server.now c.in-Some.key))) c.bytes_for-length.ensures.bytes;
      slots_left = c.take.ensures.slots;
      room_left = c.take.ensures.bytes;
    }
    (ap is_some c.in_default-take.is)

pub returns : goal.returns
returns c =
    gathers-end c.args.server.now c.args.client.now c.entries.kept _ c.args.small _ _
    (rest-past _ c.entries.place (sym c.in_default.ensures.found)) c.entries.invariant
