-- What bytes begin with where a kept file is due behind its length: this project's own rule.
use Rattle.std.specs.Prelude.{ℕ, ◌+◌, Bool, true, false, ◌||◌, nat_le, nat_lt, if◌then◌else◌, List, length, take, drop, Option, Some, None, Result, Ok, Err}
use Rattle.std.specs.Int.{w32}
use Rattle.std.specs.Option.{unwrap_or}
use Rattle.gfx_base.specs.Field.{field}
use Rattle.gfx_base.specs.declared.refusal.Refusal.{Refusal}
use Rattle.gfx_base.specs.declared.refusal.Refusal.TheVariants.{KeptShape}
use Rattle.gfx_bitmap_cache.specs.Slots.{Entry}
use Rattle.gfx_import.specs.File.{entries_of, is_begun}
use Rattle.gfx_import.specs.declared.limits.TheConstants.{MOST_FILE}
use Rattle.gfx_kept_input.specs.declared.file.TheConstants.{PREFIX}

-- the entries of a whole file and the bytes behind it, too few bytes yet, or why the file is refused
pub data Front : Type 0 where
  Whole : List Entry → List ℕ → Front
  Short : Front
  Bad : Refusal → Front

-- a file that is read so, and the bytes behind it
abbrev pub read_as : Result (List Entry) Refusal → List ℕ → Front
read_as (Ok entries) after = Whole entries after
read_as (Err refusal) after = Bad refusal

-- by the file's length, once that is there, and the bytes behind it: a file has at most so many bytes
unfoldable pub front_of : ℕ → Option ℕ → List ℕ → Front
front_of most None bytes = Short
front_of most (Some size) bytes =
    if nat_lt most size then Bad KeptShape
    else (if nat_le size (length bytes) then read_as (entries_of (take size bytes)) (drop size bytes) else Short)

-- the file at the front
unfoldable pub front : List ℕ → Front
front bytes = front_of MOST_FILE (field w32 bytes 0) (drop PREFIX bytes)

-- its length, as far as it is known, and how many bytes it takes with that
abbrev pub known_size : List ℕ → ℕ
known_size bytes = unwrap_or (field w32 bytes 0) 0

abbrev pub size_of : List ℕ → ℕ
size_of bytes = PREFIX + known_size bytes

-- it is read, and nothing of it is refused
abbrev pub is_whole : Front → Bool
is_whole (Whole entries after) = true
is_whole Short = false
is_whole (Bad refusal) = false

-- its start at least is accepted: only behind that may memory be wanting
abbrev pub is_begun_in : List ℕ → Bool
is_begun_in bytes = is_begun (take (known_size bytes) (drop PREFIX bytes))

-- or it is whole, and then it is let go of
abbrev pub may_want : List ℕ → Bool
may_want bytes = is_whole (front bytes) || is_begun_in bytes
