-- Which kept bitmaps a session begins with ([MS-RDPEGFX] 3.2.5.13, 2.2.2.17): the first of the client's entries, in their
-- order, as long as the server has each with as many bytes and the cache has a slot and room for it. The first that
-- isn't taken ends the list. That the server's limits are those of its cache is this project's own rule.
use Rattle.std.specs.Prelude.{ℕ, ◌-◌, ◌==◌, nat_le, List, [], ◌∷◌, map, take, Option, Some, None, Bool, if◌then◌else◌}
use Rattle.std.specs.Option.{option_map}
use Rattle.gfx_bitmap_cache.specs.Slots.{Image, Entry, entry, bytes_for, bytes_of, last_slot, budget}
use Rattle.gfx_caps.specs.declared.entries.CacheEntry.{CacheEntry}
use Rattle.gfx_import.specs.Entries.{image_at}
use Rattle.gfx_import.specs.Offered.{offers_of}

-- an image of so many bytes
abbrev pub with_length : ℕ → Option Image → Option Image
with_length size None = None
with_length size (Some image) = if bytes_for image.width image.height == size then Some image else None

-- the server's entry for one that is offered: of this key, with as many bytes
abbrev pub match_of : List Entry → CacheEntry → Option Entry
match_of server one = option_map (entry one.key) (with_length one.length (image_at server one.key))

-- what stands in front of the first that is missing
abbrev pub while_some : {A : Type 0} → List (Option A) → List A
while_some [] = []
while_some (None ∷ rest) = []
while_some (Some one ∷ rest) = one ∷ while_some rest

-- the first entries that have no more bytes together than there is room for
abbrev pub within : ℕ → List Entry → List Entry
within room [] = []
within room (one ∷ rest) = if nat_le (bytes_of one) room then one ∷ within (room - bytes_of one) rest else []

-- the first entries of an offer that are taken, where so many slots are free and there is room for so many bytes
unfoldable pub taken : List Entry → ℕ → ℕ → List CacheEntry → List Entry
taken server slots room offers = take slots (within room (while_some (map (match_of server) offers)))

-- those that are taken of an offer by a server that has nothing in its cache: slots 1, 2 and so on are theirs
abbrev pub answered : List Entry → List CacheEntry → Bool → List Entry
answered server offers small = taken server (last_slot small) (budget small) offers

-- what is imported of two kept files: the client's first keys, each with the server's bitmap
abbrev pub imported : List Entry → List Entry → Bool → List Entry
imported server client small = answered server (offers_of client) small
