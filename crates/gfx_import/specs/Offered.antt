-- What an offer says of an entry ([MS-RDPEGFX] 2.2.2.16.1, RDPGFX_CACHE_ENTRY_METADATA).
use Rattle.std.specs.Prelude.{List, map}
use Rattle.gfx_bitmap_cache.specs.Slots.{Entry, bytes_of}
use Rattle.gfx_caps.specs.declared.entries.CacheEntry.{CacheEntry}

-- what is offered of an entry
abbrev pub offered_of : Entry → CacheEntry
offered_of one = record { key = one.key; length = bytes_of one }

-- and of all that a client kept
abbrev pub offers_of : List Entry → List CacheEntry
offers_of client = map offered_of client
