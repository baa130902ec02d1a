-- How a cache is coded, as the value of a model has to be.
use Rattle.std.specs.Prelude.{ℕ, Bool, List, refl}
use Rattle.std.specs.Coded.{Coded, code_by, coded×, coded_ℕ, coded_bool, coded_list}
use Rattle.std.specs.Ordering.{nat_cmp}
use Rattle.std.specs.FinMap as finmap
use Rattle.std.specs.FinMap.{FinMap}
use Rattle.gfx_base.specs.declared.pixel.Pixel.{Pixel}
use Rattle.gfx_base.specs.Codes.{pixel_code}
use Rattle.gfx_bitmap_cache.specs.Slots.{Image, Entry, Cached}

-- an image as its sides and its pixels
abbrev pub image_code : Coded Image
image_code =
    code_by (ℕ × (ℕ × List Pixel)) (coded× coded_ℕ (coded× coded_ℕ (coded_list pixel_code)))
    (λ i. (i.width, (i.height, i.pixels))) (λ t. record { width = t.0; height = t.1.0; pixels = t.1.1 }) (λ _. refl)

-- an entry as its key and its image
abbrev pub entry_code : Coded Entry
entry_code = code_by (ℕ × Image) (coded× coded_ℕ image_code) (λ e. (e.key, e.image)) (λ t. record { key = t.0; image = t.1 }) (λ _. refl)

-- a cache as its slots and the word small
abbrev pub cached_code : Coded Cached
cached_code =
    code_by (FinMap nat_cmp Entry × Bool) (coded× (finmap.code coded_ℕ entry_code) coded_bool)
    (λ c. (c.slots, c.small)) (λ t. record { slots = t.0; small = t.1 }) (λ _. refl)
