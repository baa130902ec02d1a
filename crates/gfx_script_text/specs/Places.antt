-- Rectangles, points and coordinates as scripts write them: this project's own rule. A value's type, Key, is
-- checked before any Range.
use Rattle.std.specs.Prelude.{ℕ, Bool, false, ◌==◌, ◌&&◌, nat_le, List, length, Option, Some, None, Result, Ok}
use Rattle.std.specs.List.{list_all, slice_get}
use Rattle.std.specs.Option.{ok_or, option_and_then, is_some}
use Rattle.toml.specs.Data.{Data, Members, as_integer}
use Rattle.gfx_base.specs.declared.geometry.Point.{Point}
use Rattle.gfx_base.specs.declared.geometry.Rect.{Rect}
use Rattle.gfx_base.specs.Results.{◌>>=◌, check, each}
use Rattle.gfx_script.specs.declared.TheConstants.{MOST_RECTS}
use Rattle.gfx_script_text.specs.declared.TheConstants.{MOST_NUMBER}
use Rattle.gfx_script.specs.declared.error.ScriptKind.{ScriptKind}
use Rattle.gfx_script.specs.declared.error.ScriptKind.TheVariants.{Key, Range}
use Rattle.gfx_script_text.specs.Members.{items_in, list, within}

-- the value is a whole number
abbrev pub is_whole : Data → Bool
is_whole value = is_some (as_integer value)

-- the values are there, and all of them are whole numbers
abbrev pub all_whole : Option (List Data) → Bool
all_whole None = false
all_whole (Some values) = list_all is_whole values

-- the value is an array of whole numbers
abbrev pub are_whole : Data → Bool
are_whole value = all_whole (items_in value)

-- the array of whole numbers at a key
unfoldable pub numbers_at : List ℕ → Members → Result (List Data) ScriptKind
numbers_at key table = do
  values ← list key table
  numbers ← check Key (list_all is_whole values)
  Ok values

-- the array of arrays of whole numbers at a key
unfoldable pub arrays_at : List ℕ → Members → Result (List Data) ScriptKind
arrays_at key table = do
  values ← list key table
  numbers ← check Key (list_all are_whole values)
  Ok values

-- the coordinate at a place of an array
unfoldable pub coordinate_at : ℕ → List Data → Result ℕ ScriptKind
coordinate_at at items = do
  number ← ok_or (option_and_then as_integer (slice_get items at)) Key
  within 0 MOST_NUMBER number

-- a rectangle as [left, top, right, bottom]
unfoldable pub rect_of : List Data → Result Rect ScriptKind
rect_of items = do
  four ← check Range (length items == 4)
  left ← coordinate_at 0 items
  top ← coordinate_at 1 items
  right ← coordinate_at 2 items
  bottom ← coordinate_at 3 items
  Ok record { left = left; top = top; right = right; bottom = bottom }

-- the rectangle that a value is
unfoldable pub rect_in : Data → Result Rect ScriptKind
rect_in value = do
  items ← ok_or (items_in value) Key
  rect_of items

-- a point as [x, y]
unfoldable pub point_of : List Data → Result Point ScriptKind
point_of items = do
  two ← check Range (length items == 2)
  x ← coordinate_at 0 items
  y ← coordinate_at 1 items
  Ok record { x = x; y = y }

-- the point that a value is
unfoldable pub point_in : Data → Result Point ScriptKind
point_in value = do
  items ← ok_or (items_in value) Key
  point_of items

-- some points, one after another
unfoldable pub points_of : List Data → Result (List Point) ScriptKind
points_of values = do
  few ← check Range (nat_le 1 (length values) && nat_le (length values) MOST_RECTS)
  each point_in values
