-- Bitmaps under their keys, as a list in which no key is there twice: this project's own rule, as is that there are
-- so many at most.
use Rattle.std.specs.Prelude.{◌≡◌, ℕ, ◌*◌, ◌≤◌, ◌<◌, ◌^◌, Bool, true, ◌&&◌, not, nat_eq, nat_lt, List, [], ◌∷◌, ◌++◌, length, map, Option, if◌then◌else◌}
use Rattle.std.specs.List.{AllByRecursion, find, list_any}
use Rattle.std.specs.Option.{option_map}
use Rattle.gfx_base.specs.declared.pixel.Pixel.{Pixel}
use Rattle.gfx_bitmap_cache.specs.Slots.{Image, Entry}
use Rattle.gfx_import.specs.declared.limits.TheConstants.{MOST_ENTRIES, MOST_PIXELS}

-- an image of these sides
abbrev pub image : ℕ → ℕ → List Pixel → Image
image width height pixels = record { width = width; height = height; pixels = pixels }

-- the keys, in their order
abbrev pub entry_keys : List Entry → List ℕ
entry_keys entries = map (λ (held : Entry). held.key) entries

abbrev pub has_key : List ℕ → ℕ → Bool
has_key keys key = list_any (nat_eq key) keys

-- no key is there twice
abbrev pub are_distinct : List ℕ → Bool
are_distinct [] = true
are_distinct (key ∷ keys) = not (has_key keys key) && are_distinct keys

-- the image under a key, if there is one
abbrev pub image_at : List Entry → ℕ → Option Image
image_at entries key = option_map (λ (held : Entry). held.image) (find (λ (held : Entry). nat_eq key held.key) entries)

-- one more may be kept under this key
abbrev pub takes : List Entry → ℕ → Bool
takes entries key = not (has_key (entry_keys entries) key) && nat_lt (length entries) MOST_ENTRIES

-- the list after an entry was given to it: at its end, where it may be kept
abbrev pub with_entry : List Entry → Entry → List Entry
with_entry entries one = if takes entries one.key then entries ++ one ∷ [] else entries

-- an image has as many pixels as its sides say, and no more than may be kept
pub record IsImage (image : Image) : Type 0 where
  pub area : length image.pixels ≡ image.width * image.height
  pub few : image.width * image.height ≤ MOST_PIXELS
  pub width : image.width < 2 ^ 16
  pub height : image.height < 2 ^ 16

pub record IsEntry (one : Entry) : Type 0 where
  pub key : one.key < 2 ^ 64
  pub image : IsImage one.image

-- what holds of all that is kept
pub record IsKept (entries : List Entry) : Type 0 where
  pub distinct : are_distinct (entry_keys entries) ≡ true
  pub few : length entries ≤ MOST_ENTRIES
  pub each : AllByRecursion IsEntry entries
