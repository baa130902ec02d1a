-- What a layout reads from the front of bytes, and what stops it: this project's own form.
use Rattle.std.specs.Prelude.{ℕ, zero, suc, ◌*◌, ◌==◌, List, [], ◌∷◌, length, take, drop, nat_le, if◌then◌else◌, Result, Ok, Err}
use Rattle.gfx_base.specs.Results.{◌>>=◌, check}
use Rattle.gfx_layout.specs.declared.stop.Stop.{Stop}
use Rattle.gfx_layout.specs.declared.stop.Stop.TheVariants.{Short, Long, Rule}
use Rattle.gfx_layout.specs.Shape.{Size, Shape, width, part_in, number_alone}
use Rattle.gfx_layout.specs.Layout.{Layout, done, one, items, list, sized, bytes, each, choose, must}

-- what was read, and the bytes behind it; or what stopped it
abbrev pub Taken : Type 0 → Type 0
Taken X = Result (X × List ℕ) Stop

-- so many bytes as they are
unfoldable pub take_bytes : ℕ → List ℕ → Taken (List ℕ)
take_bytes count from = if nat_le count (length from) then Ok (take count from, drop count from) else Err Short

-- a part
unfoldable pub take_one : {T : Type 0} → Shape T → List ℕ → Taken T
take_one shape from =
    if nat_le (width shape) (length from) then Ok (part_in shape from, drop (width shape) from) else Err Short

-- so many parts, one after the other
unfoldable pub parts_in : {T : Type 0} → Shape T → ℕ → List ℕ → List T
parts_in shape zero from = []
parts_in shape (suc count) from = part_in shape from ∷ parts_in shape count (drop (width shape) from)

-- so many parts; they are there all or not at all
unfoldable pub take_items : {T : Type 0} → Shape T → ℕ → List ℕ → Taken (List T)
take_items shape count from =
    if nat_le (count * width shape) (length from)
    then Ok (parts_in shape count from, drop (count * width shape) from) else Err Short

-- parts behind their count
unfoldable pub take_list : {T : Type 0} → Size → Shape T → List ℕ → Taken (List T)
take_list size shape from = do
  count ← take_one (number_alone size) from
  take_items shape count.0 count.1

-- bytes behind their length
unfoldable pub take_sized : Size → List ℕ → Taken (List ℕ)
take_sized size from = do
  count ← take_one (number_alone size) from
  take_bytes count.0 count.1

-- so many items, by one reader
unfoldable pub take_each : {T : Type 0} → (List ℕ → Taken T) → ℕ → List ℕ → Taken (List T)
take_each reader zero from = Ok ([], from)
take_each reader (suc count) from = do
  first ← reader from
  others ← take_each reader count first.1
  Ok (first.0 ∷ others.0, others.1)

-- what stands at the front of bytes by a layout
unfoldable pub read : {R : Type 0} → Layout R → List ℕ → Taken R
read (done r) from = Ok (r, from)
read (one shape rest) from = do
  part ← take_one shape from
  read (rest part.0) part.1
read (items shape count rest) from = do
  parts ← take_items shape count from
  read (rest parts.0) parts.1
read (list size shape rest) from = do
  parts ← take_list size shape from
  read (rest parts.0) parts.1
read (sized size rest) from = do
  some ← take_sized size from
  read (rest some.0) some.1
read (bytes count rest) from = do
  some ← take_bytes count from
  read (rest some.0) some.1
read (each item count rest) from = do
  parts ← take_each (read item) count from
  read (rest parts.0) parts.1
read (choose test first second) from = if test then read first from else read second from
read (must test refusal rest) from = do
  holds ← check (Rule refusal) test
  read rest from

-- nothing is left
abbrev pub ended : List ℕ → Result (Unit {0}) Stop
ended from = check Long (length from == 0)

-- what bytes say by a layout that they have to end with
unfoldable pub read_whole : {R : Type 0} → Layout R → List ℕ → Result R Stop
read_whole layout from = do
  found ← read layout from
  end ← ended found.1
  Ok found.0
