-- How kept bitmaps are held: in the order of an index that finds them by their keys.
use Rattle.std.specs.Prelude.{ℕ, List, map}
use Rattle.gfx_base.specs.declared.bitmap.Bitmap.{Bitmap}
use Rattle.gfx_bitmap_cache.specs.Slots.{Entry, entry, image_of}
use Rattle.gfx_import.specs.declared.entry.KeptEntry.TheInside as inner
use Rattle.gfx_import.specs.declared.kept.Kept.TheInside.{Inside}
use Rattle.gfx_import.specs.Entries.{IsEntry, IsKept}

-- a key and its bitmap
abbrev pub pair_of : ℕ × Bitmap → Entry
pair_of held = entry held.0 (image_of held.1)

-- the entry of the fields
abbrev pub entry_of : inner.Inside → Entry
entry_of a = entry a.key (image_of a.bitmap)

abbrev pub IsSoundEntry : inner.Inside → Type 0
IsSoundEntry a = IsEntry (entry_of a)

-- the entries of the fields
abbrev pub kept_of : Inside → List Entry
kept_of a = map pair_of a.bitmaps.entries

abbrev pub IsSound : Inside → Type 0
IsSound a = IsKept (kept_of a)
