-- How the bitmaps are kept.
use Rattle.std.specs.Prelude.{◌≡◌}
use Rattle.std.specs.FinMap.{from_entries}
use Rattle.gfx_bitmap_cache.specs.declared.cache.Cache.TheInside.{Inside}
use Rattle.gfx_bitmap_cache.specs.declared.slot.Slot.TheInside as inner
use Rattle.gfx_bitmap_cache.specs.Slots.{Entry, Cached, IsCached, cached, entry, image_of, total}

-- the entry of the fields
abbrev pub entry_of : inner.Inside → Entry
entry_of a = entry a.key (image_of a.bitmap)

-- the cache of the fields
abbrev pub cached_of : Inside → Cached
cached_of a = cached (from_entries a.slots.entries) a.small

-- the number of bytes is kept beside the slots
pub record IsSound (a : Inside) : Type 0 where
  pub bytes : a.bytes ≡ total (from_entries a.slots.entries)
  pub kept : IsCached (cached_of a)
