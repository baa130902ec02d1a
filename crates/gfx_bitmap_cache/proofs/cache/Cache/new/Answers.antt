use Rattle.std.proofs.Common.{◌∙◌, ap, sym, false}
use Rattle.std.specs.FinMap.{from_entries}
use Rattle.gfx_bitmap_cache.specs.Slots.{total}
use Rattle.gfx_base.proofs.MapLemmas.{empty_map}
use Rattle.gfx_bitmap_cache.proofs.Totals.{total-empty}
use Rattle.gfx_bitmap_cache.proofs.Sound.{kept-empty}
use Rattle.gfx_bitmap_cache.proofs.cache.Cache.new.Goals as goal

pub invariant_of-result : goal.invariant_of-result
invariant_of-result c = record {
  bytes = sym (ap total (empty_map c.new.result.entries c.new.ensures.empty) ∙ total-empty);
  kept = kept-empty (from_entries c.new.result.entries) false (empty_map c.new.result.entries c.new.ensures.empty);
}
