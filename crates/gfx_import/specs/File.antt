-- A kept file: four bytes that say what it is, how many entries it has, and the entries, each a key, the sides of its
-- bitmap and its pixels. This project's own format; all faults of it are one.
use Rattle.std.specs.Prelude.{ℕ, ◌*◌, ◌==◌, nat_le, Bool, is_ok, List, length, map, Result, Ok, Err}
use Rattle.gfx_base.specs.declared.refusal.Refusal.{Refusal}
use Rattle.gfx_base.specs.declared.refusal.Refusal.TheVariants.{KeptShape}
use Rattle.gfx_layout.specs.declared.stop.Stop.{Stop}
use Rattle.gfx_layout.specs.Shape.{u16, u32, u64}
use Rattle.gfx_layout.specs.Shapes.{pixel}
use Rattle.gfx_layout.specs.Layout.{Layout, Parts, done, number, items, each, must, spelled}
use Rattle.gfx_layout.specs.Reading.{read, read_whole}
use Rattle.gfx_bitmap_cache.specs.Slots.{Entry, entry}
use Rattle.gfx_import.specs.declared.limits.TheConstants.{MARK, MOST_ENTRIES, MOST_PIXELS}
use Rattle.gfx_import.specs.Entries.{image, entry_keys, are_distinct}

-- one entry. A bitmap of more pixels is in no file that is short enough to be read, so this rule binds nothing there
abbrev pub kept_entry : Layout Entry
kept_entry =
    number u64 λ key. number u16 λ width. number u16 λ height. must (nat_le (width * height) MOST_PIXELS) KeptShape (
    items pixel (width * height) λ pixels. done (entry key (image width height pixels)))

-- the start, and what stands behind it by the count of entries
abbrev pub behind_start : {R : Type 0} → (ℕ → Layout R) → Layout R
behind_start rest =
    number u32 λ mark. must (mark == MARK) KeptShape (number u16 λ count. must (nat_le count MOST_ENTRIES) KeptShape (rest count))

-- the whole
abbrev pub kept_file : Layout (List Entry)
kept_file =
    behind_start λ count. each kept_entry count λ entries. must (are_distinct (entry_keys entries)) KeptShape (done entries)

-- the start is accepted
unfoldable pub is_begun : List ℕ → Bool
is_begun bytes = is_ok (read (behind_start λ count. done count) bytes)

-- whatever stops the reading
abbrev pub shaped : {X : Type 0} → Result X Stop → Result X Refusal
shaped (Ok x) = Ok x
shaped (Err stop) = Err KeptShape

-- the entries of a file, or that it isn't one
unfoldable pub entries_of : List ℕ → Result (List Entry) Refusal
entries_of bytes = shaped (read_whole kept_file bytes)

-- the parts of an entry, and of the whole, in the order of their layouts
abbrev pub entry_parts : Entry → Parts kept_entry
entry_parts one = (one.key, (one.image.width, (one.image.height, (one.image.pixels, tt))))

abbrev pub file_parts : List Entry → Parts kept_file
file_parts entries = (MARK, (length entries, (map entry_parts entries, tt)))

-- the bytes of an entry, and of the whole
abbrev pub entry_text : Entry → List ℕ
entry_text one = spelled kept_entry (entry_parts one)

unfoldable pub file_text : List Entry → List ℕ
file_text entries = spelled kept_file (file_parts entries)
