-- The source and the sink over memory: this project's own rule. Calls are counted from 1; those whose
-- numbers are listed fail.
use Rattle.std.specs.Prelude.{ℕ, ◌+◌, ◌-◌, List, [], ◌++◌, length, take, drop, min, Bool, ◌||◌, ◌==◌, if◌then◌else◌, Result, Ok, Err}
use Rattle.std.specs.List.{list_any}
use Rattle.gfx_base.specs.declared.answer.Failed.{Failed}
use Rattle.gfx_base.specs.Stream.{LAST}

-- a source over memory: the bytes left, the numbers of the calls that fail, and the counts so far
pub record Reading : Type 0 where
  pub left : List ℕ
  pub fails : List ℕ
  pub calls : ℕ
  pub faults : ℕ

-- a sink over memory: the bytes held, the room for them, the numbers of the calls that fail, and the counts so far
pub record Writing : Type 0 where
  pub held : List ℕ
  pub room : ℕ
  pub fails : List ℕ
  pub calls : ℕ
  pub faults : ℕ

-- one more, up to the last value
abbrev pub next_count : ℕ → ℕ
next_count n = min (n + 1) LAST

abbrev pub is_listed : ℕ → List ℕ → Bool
is_listed n listed = list_any (λ m. m == n) listed

abbrev pub read_fails : Reading → Bool
read_fails s = is_listed (next_count s.calls) s.fails

abbrev pub write_fails : Writing → Bool
write_fails s = is_listed (next_count s.calls) s.fails || (length s.held == s.room)

-- how many bytes a read gives that doesn't fail
abbrev pub read_count : Reading → ℕ → ℕ
read_count s len = min len (length s.left)

-- how many bytes a write takes that doesn't fail
abbrev pub write_count : Writing → ℕ → ℕ
write_count s len = min len (s.room - length s.held)

-- what a read of at most len bytes answers
abbrev pub read_answer : Reading → ℕ → Result ℕ Failed
read_answer s len = if read_fails s then Err record {} else Ok (read_count s len)

-- the source after a read of at most len bytes
abbrev pub read_after : Reading → ℕ → Reading
read_after s len =
    if read_fails s then record s { calls = next_count s.calls; faults = next_count s.faults }
    else record s { left = drop (read_count s len) s.left; calls = next_count s.calls }

-- what a write answers
abbrev pub write_answer : Writing → List ℕ → Result ℕ Failed
write_answer s piece = if write_fails s then Err record {} else Ok (write_count s (length piece))

-- the sink after a write
abbrev pub write_after : Writing → List ℕ → Writing
write_after s piece =
    if write_fails s then record s { calls = next_count s.calls; faults = next_count s.faults }
    else record s { held = s.held ++ take (write_count s (length piece)) piece; calls = next_count s.calls }

-- nothing is read yet
abbrev pub reading_of : List ℕ → List ℕ → Reading
reading_of bytes fails = record { left = bytes; fails = fails; calls = 0; faults = 0 }

-- nothing is written yet
abbrev pub writing_of : ℕ → List ℕ → Writing
writing_of room fails = record { held = []; room = room; fails = fails; calls = 0; faults = 0 }
