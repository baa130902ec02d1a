-- What is imported, without a walk over it ([MS-RDPEGFX] 3.2.5.13): this project's own words.
use Rattle.std.specs.Prelude.{◌≡◌, ℕ, ◌+◌, ◌≤◌, ◌<◌, ◌⊎◌, Bool, true, List, [], ◌∷◌, length, take, drop, Some, None}
use Rattle.std.specs.List.{sum_by}
use Rattle.gfx_bitmap_cache.specs.Slots.{Entry, bytes_of, last_slot, budget}
use Rattle.gfx_import.specs.Entries.{image_at}
use Rattle.gfx_import.specs.Imported.{with_length, imported}
use Rattle.gfx_import.specs.Agreed.{agree}

-- these are the client's first keys, each with what the server has under it, of as many bytes
abbrev pub AreShared : List Entry → List Entry → List Entry → Type 0
AreShared server client [] = Unit {0}
AreShared server [] (held ∷ list) = ⊥
AreShared server (one ∷ client) (held ∷ list) =
    (held.key ≡ one.key) × ((image_at server one.key ≡ Some held.image) × ((bytes_of held ≡ bytes_of one) × AreShared server client list))

-- an entry isn't taken behind others: the server has none of this key with as many bytes, or all slots are taken, or the
-- bytes together would be too many
abbrev pub IsLeftOut : List Entry → ℕ → ℕ → List Entry → Entry → Type 0
IsLeftOut server slots room list one =
    (with_length (bytes_of one) (image_at server one.key) ≡ None) ⊎ ((length list ≡ slots) ⊎ (room < sum_by bytes_of list + bytes_of one))

-- so of the first of these, if there is one
abbrev pub IsEnded : List Entry → ℕ → ℕ → List Entry → List Entry → Type 0
IsEnded server slots room list [] = Unit {0}
IsEnded server slots room list (one ∷ rest) = IsLeftOut server slots room list one

-- a list is as long as it can be
pub record IsChosen (server client : List Entry) (slots room : ℕ) (list : List Entry) : Type 0 where
  pub shared : AreShared server client list
  pub few : length list ≤ slots
  pub small : sum_by bytes_of list ≤ room
  pub ended : IsEnded server slots room list (drop (length list) client)

-- and so is what is imported
abbrev pub ImportedIsChosen : Type 0
ImportedIsChosen =
    (server client : List Entry) (small : Bool) → IsChosen server client (last_slot small) (budget small) (imported server client small)

-- where two files agree, it is what the client itself keeps under these keys
abbrev pub AgreedIsOwn : Type 0
AgreedIsOwn =
    (server client : List Entry) (small : Bool) → agree server client ≡ true
    → imported server client small ≡ take (length (imported server client small)) client
