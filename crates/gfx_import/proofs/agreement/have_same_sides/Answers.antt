use Rattle.std.proofs.Common.{◌∙◌, ◌+◌, List, drop, sym, arith}
use Rattle.gfx_bitmap_cache.specs.Slots.{Entry, entry, image_of}
use Rattle.gfx_import.specs.Imported.{imported}
use Rattle.gfx_import.proofs.TakingLemmas.{rest-at, rest-past}
use Rattle.gfx_import.proofs.AgreementLemmas.{sides_more, sides_none, sides_stop}
use Rattle.gfx_import.proofs.agreement.have_same_sides.Goals as goal

pub returns-in_default-at : goal.returns-in_default-at
returns-in_default-at c =
    let all : List Entry = imported c.args.server.now c.args.client.now c.args.small in
    let place = c.entries.place in
    let one = entry c.in-Some.field-0-0 (image_of c.in-Some.bitmap.now) in
    let here = rest-at all place one (sym (c.in-Some.ensures c.args.small (omega (arith, c.entries-test.true, c.imported_count-count.ensures.count)))) in
    sides_none all c.args.client.now (drop place all) (drop (place + 1) all) (drop place c.args.client.now) (drop (place + 1) c.args.client.now) one one here c.entries.invariant
    (rest-past c.args.client.now place (sym c.in_default-at.ensures.found))

pub returns-then-not-same_sides : goal.returns-then-not-same_sides
returns-then-not-same_sides c =
    let all : List Entry = imported c.args.server.now c.args.client.now c.args.small in
    let place = c.entries.place in
    let one = entry c.in-Some.field-0-0 (image_of c.in-Some.bitmap.now) in
    let other = entry c.in-Some-at.field-0-0 (image_of c.in-Some-at.own.now) in
    let here = rest-at all place one (sym (c.in-Some.ensures c.args.small (omega (arith, c.entries-test.true, c.imported_count-count.ensures.count)))) in
    let there = rest-at c.args.client.now place other (sym c.in-Some-at.ensures.found) in
    sides_stop all c.args.client.now (drop place all) (drop (place + 1) all) (drop place c.args.client.now) (drop (place + 1) c.args.client.now) one other here c.entries.invariant there (sym c.same_sides.ensures ∙ c.if-not-same_sides.true)

pub entries-preserved : goal.entries-preserved
entries-preserved c =
    let all : List Entry = imported c.args.server.now c.args.client.now c.args.small in
    let place = c.entries.place in
    let one = entry c.in-Some.field-0-0 (image_of c.in-Some.bitmap.now) in
    let other = entry c.in-Some-at.field-0-0 (image_of c.in-Some-at.own.now) in
    let here = rest-at all place one (sym (c.in-Some.ensures c.args.small (omega (arith, c.entries-test.true, c.imported_count-count.ensures.count)))) in
    let there = rest-at c.args.client.now place other (sym c.in-Some-at.ensures.found) in
    sides_more all c.args.client.now (drop place all) (drop (place + 1) all) (drop place c.args.client.now) (drop (place + 1) c.args.client.now) one other here c.entries.invariant there (sym c.same_sides.ensures ∙ c.if-not-same_sides.false)
