use Rattle.std.proofs.Common.{◌≡◌, ◌-◌, drop}
use Rattle.std.specs.FinMap.{empty}
use Rattle.gfx_bitmap_cache.specs.Slots.{cached}
use Rattle.gfx_import.specs.declared.limits.TheConstants.{MOST_ENTRIES}
use Rattle.gfx_import.specs.Started.{stored_all}
use Rattle.gfx_import.proofs.importing.store_at.Given as goal

abbrev pub invariant-slots : goal.invariant-slots
invariant-slots l = stored_all l.cache (drop l.place l.slots) (drop l.place l.kept) ≡ stored_all (cached empty l.small) l.slots l.kept

abbrev pub decreases-slots : goal.decreases-slots
decreases-slots l = MOST_ENTRIES - l.place
