use Rattle.std.proofs.Common.{◌≡◌, ◌∙◌, Ok, Result, refl, sym, subst, arith}
use Rattle.std.specs.Prelude.{IsOk}
use Rattle.gfx_base.specs.declared.refusal.Refusal.{Refusal}
use Rattle.gfx_bitmap_cache.specs.Slots.{Cached, entry, image_of}
use Rattle.gfx_import.proofs.StartedLemmas.{imported-few, imported-next}
use Rattle.gfx_import.proofs.importing.fill_cache.Goals as goal

pub overflow_cast-place : goal.overflow_cast-place
overflow_cast-place c = omega (arith, c.entries-test.true, c.imported_count-count.ensures.count, imported-few c.args.server.now c.args.client.now c.args.small)

pub overflow_add-place : goal.overflow_add-place
overflow_add-place c = omega (arith, c.entries-test.true, c.imported_count-count.ensures.count, imported-few c.args.server.now c.args.client.now c.args.small)

pub keep_copy-requires : goal.keep_copy-requires
keep_copy-requires c =
    let one = entry c.in-Some.key (image_of c.in-Some.bitmap.now) in
    let here = sym (c.in-Some.ensures c.args.small (omega (arith, c.entries-test.true, c.imported_count-count.ensures.count))) in
    subst IsOk (sym (imported-next c.args.server.now c.args.client.now c.args.small c.entries.cache c.entries.place one c.entries.invariant here)) refl

pub entries-preserved : goal.entries-preserved
entries-preserved c =
    let one = entry c.in-Some.key (image_of c.in-Some.bitmap.now) in
    let here = sym (c.in-Some.ensures c.args.small (omega (arith, c.entries-test.true, c.imported_count-count.ensures.count))) in
    same_cache _ _ (sym c.in_ok-keep_copy.ensures ∙ imported-next c.args.server.now c.args.client.now c.args.small c.entries.cache c.entries.place one c.entries.invariant here)
  where
    same_cache : (a b : Cached) → ◌≡◌ {A = Result Cached Refusal} (Ok a) (Ok b) → a ≡ b
    same_cache a b e = cc
