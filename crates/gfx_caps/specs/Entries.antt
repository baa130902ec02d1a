-- What a client says of a bitmap that it kept ([MS-RDPEGFX] 2.2.2.16.1, RDPGFX_CACHE_ENTRY_METADATA).
use Rattle.std.specs.Prelude.{[], ◌∷◌, refl}
use Rattle.gfx_layout.specs.Shape.{Shape, u32, u64}
use Rattle.gfx_caps.specs.declared.entries.CacheEntry.{CacheEntry}

-- the key (cacheKey), and how many bytes the bitmap has (bitmapLength)
abbrev pub cache_entry : Shape CacheEntry
cache_entry = record {
  sizes = u64 ∷ u32 ∷ [];
  row = λ one. (one.key, (one.length, tt));
  of_row = λ t. record { key = t.0; length = t.1.0 };
  there = λ one. refl;
  back = λ t. refl;
}
