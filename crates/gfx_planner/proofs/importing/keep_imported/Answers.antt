use Rattle.std.proofs.Common.{sym, refl, subst, arith}
use Rattle.std.specs.Prelude.{IsOk}
use Rattle.gfx_bitmap_cache.specs.Slots.{entry, image_of}
use Rattle.gfx_import.specs.Imported.{imported}
use Rattle.gfx_script.proofs.Imports.{imported_start}
use Rattle.gfx_planner.proofs.BitmapStarts.{keeps-next, kept-next, kept-all}
use Rattle.gfx_planner.proofs.importing.keep_imported.Goals as goal

pub keep_key-requires : goal.keep_key-requires
keep_key-requires c =
    let one = entry c.in-Some.key (image_of c.in-Some.bitmap.now) in
    let list = imported c.args.server.now c.args.client.now c.args.small in
    let here = sym (c.in-Some.ensures c.args.small (omega (arith, c.keys-test.true, c.imported_count-count.ensures.count))) in
    let is = imported_start c.args.server.now c.args.client.now c.args.small c.imported_count-count.ensures.kept.distinct in
    subst IsOk (sym (keeps-next list c.args.small c.keys.slots c.keys.place one is c.keys.invariant here).1) refl

pub keys-preserved : goal.keys-preserved
keys-preserved c =
    let one = entry c.in-Some.key (image_of c.in-Some.bitmap.now) in
    let list = imported c.args.server.now c.args.client.now c.args.small in
    let here = sym (c.in-Some.ensures c.args.small (omega (arith, c.keys-test.true, c.imported_count-count.ensures.count))) in
    let is = imported_start c.args.server.now c.args.client.now c.args.small c.imported_count-count.ensures.kept.distinct in
    kept-next list c.args.small c.keys.slots c.keep_key.new.slots c.keys.place one is c.keys.invariant here c.in_ok-keep_key.ensures

pub returns : goal.returns
returns c =
    kept-all (imported c.args.server.now c.args.client.now c.args.small) c.args.small c.keys.slots c.keys.place c.keys.invariant
    (omega (arith, c.keys-test.false, c.imported_count-count.ensures.count))
