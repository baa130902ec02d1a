use Rattle.std.proofs.Common.{◌<◌, ◌≤◌, ◌+◌, ◌∙◌, ap, length, subst, sym, arith}
use Rattle.gfx_bitmap_cache.specs.Slots.{entry, image_of}
use Rattle.gfx_import.specs.Imported.{imported}
use Rattle.gfx_script.specs.Starting.{IsStart}
use Rattle.gfx_script.proofs.Imports.{imported_start}
use Rattle.gfx_script.proofs.StartPlaces.{imported_fewer, some_there, starts_all, starts_next}
use Rattle.gfx_script.proofs.start.imported_start.Goals as goal

pub prove-unreachable-requires : goal.prove-unreachable-requires
prove-unreachable-requires c =
    omega (arith, c.if-prove.true, c.len-most.ensures.len, c.imported_count-count.ensures, imported_fewer c.args.server.now c.args.client.now c.args.small)

pub unreachable-requires : goal.unreachable-requires
unreachable-requires c =
    let below : c.places.place < length (imported c.args.server.now c.args.client.now c.args.small) = omega (arith, c.places-test.true, c.imported_count-count.ensures) in
    some_there (imported c.args.server.now c.args.client.now c.args.small) c.places.place (c.in_default.ensures c.args.small below) below

pub places-preserved : goal.places-preserved
places-preserved c =
    let below : c.places.place < length (imported c.args.server.now c.args.client.now c.args.small) = omega (arith, c.places-test.true, c.imported_count-count.ensures) in
    record {
      items = c.push_reserved.ensures.items
          ∙ starts_next (imported c.args.server.now c.args.client.now c.args.small) _ c.places.place (entry c.in-Some.key (image_of c.in-Some.bitmap.now)) c.places.invariant.items
          (c.in-Some.ensures c.args.small below);
      len = c.push_reserved.ensures.len ∙ ap (λ n. n + 1) c.places.invariant.len;
      room = c.push_reserved.ensures.capacity ∙ c.places.invariant.room;
    }

pub returns-clause-all : goal.returns-clause-all
returns-clause-all c =
    let past : length (imported c.args.server.now c.args.client.now c.args.small) ≤ c.places.place = omega (arith, c.places-test.false, c.imported_count-count.ensures) in
    starts_all (imported c.args.server.now c.args.client.now c.args.small) _ c.places.place c.places.invariant.items past

pub returns-clause-start : goal.returns-clause-start
returns-clause-start c = subst (λ l. IsStart l c.args.small) (sym (returns-clause-all c)) (imported_start c.args.server.now c.args.client.now c.args.small c.len-most.ensures.kept.distinct)
