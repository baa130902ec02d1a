-- The tables of the steps of a script: this project's own rule. All faults of kind Key come before
-- those of kind Range, and both before Pixels.
use Rattle.std.specs.Prelude.{ℕ, ℤ, ◌&&◌, nat_le, if◌then◌else◌, List, [], ◌∷◌, length, Option, Some, None, Result, Ok, Err, codes}
use Rattle.std.specs.List.{list_all}
use Rattle.std.specs.Option.{ok_or}
use Rattle.std.specs.Str.{bytes_eq}
use Rattle.toml.specs.Data.{Data, Members, get_member, as_str, as_table}
use Rattle.gfx_base.specs.declared.format.Format.{Format}
use Rattle.gfx_base.specs.declared.format.Format.TheVariants.{Xrgb, Argb}
use Rattle.gfx_base.specs.Results.{◌>>=◌, check, each}
use Rattle.gfx_surface.specs.declared.TheConstants.{MOST_SIDE}
use Rattle.gfx_surface_map.specs.declared.place.TheConstants.{MOST_OUTPUT_SIDE}
use Rattle.gfx_script.specs.declared.TheConstants.{MOST_RECTS, MOST_KEY, MOST_GLYPH}
use Rattle.gfx_script_text.specs.declared.TheConstants.{MOST_NUMBER}
use Rattle.gfx_script.specs.declared.error.ScriptKind.{ScriptKind}
use Rattle.gfx_script.specs.declared.error.ScriptKind.TheVariants.{Key, Range}
use Rattle.gfx_script.specs.declared.step.Kind.{Kind}
use Rattle.gfx_script.specs.declared.step.Kind.TheVariants.{Raw, Residual, Bands, Palette, Plain, Progressive, Video}
use Rattle.gfx_script.specs.declared.step.Step.{Step}
use Rattle.gfx_script.specs.declared.step.Step.TheVariants.{Surface, Delete, Reset, Map, Fill, Copy, Keep, Show, Forget, Paint, Improve, Frame}
use Rattle.gfx_script_text.specs.Colour.{colour_of}
use Rattle.gfx_script_text.specs.Members.{has_only, whole, whole_if_any, text, list, within}
use Rattle.gfx_script_text.specs.Pictures.{number_of}
use Rattle.gfx_script_text.specs.Places.{are_whole, numbers_at, arrays_at, point_of, rect_of, rect_in, points_of}

-- the format that a word names
abbrev pub format_named : List ℕ → Result Format ScriptKind
format_named word =
    if bytes_eq word (codes "xrgb") then Ok Xrgb
    else if bytes_eq word (codes "argb") then Ok Argb
    else Err Key

-- the format, which may be missing
abbrev pub format_or_default : Option Data → Result Format ScriptKind
format_or_default None = Ok Xrgb
format_or_default (Some value) = do
  word ← ok_or (as_str value) Key
  format_named word

-- `surface`
unfoldable pub surface_of : Members → Result Step ScriptKind
surface_of table = do
  known ← check Key (has_only (codes "do" ∷ codes "id" ∷ codes "width" ∷ codes "height" ∷ codes "format" ∷ []) table)
  id ← whole (codes "id") table
  width ← whole (codes "width") table
  height ← whole (codes "height") table
  format ← format_or_default (get_member (codes "format") table)
  id ← within 0 MOST_NUMBER id
  width ← within 1 MOST_SIDE width
  height ← within 1 MOST_SIDE height
  Ok (Surface id width height format)

-- `delete`
unfoldable pub delete_of : Members → Result Step ScriptKind
delete_of table = do
  known ← check Key (has_only (codes "do" ∷ codes "id" ∷ []) table)
  id ← whole (codes "id") table
  id ← within 0 MOST_NUMBER id
  Ok (Delete id)

-- `reset`
unfoldable pub reset_of : Members → Result Step ScriptKind
reset_of table = do
  known ← check Key (has_only (codes "do" ∷ codes "width" ∷ codes "height" ∷ []) table)
  width ← whole (codes "width") table
  height ← whole (codes "height") table
  width ← within 1 MOST_OUTPUT_SIDE width
  height ← within 1 MOST_OUTPUT_SIDE height
  Ok (Reset width height)

-- `map`
unfoldable pub map_of : Members → Result Step ScriptKind
map_of table = do
  known ← check Key (has_only (codes "do" ∷ codes "id" ∷ codes "x" ∷ codes "y" ∷ []) table)
  id ← whole (codes "id") table
  x ← whole (codes "x") table
  y ← whole (codes "y") table
  id ← within 0 MOST_NUMBER id
  x ← within 0 MOST_OUTPUT_SIDE x
  y ← within 0 MOST_OUTPUT_SIDE y
  Ok (Map id x y)

-- `fill`
unfoldable pub fill_of : Members → Result Step ScriptKind
fill_of table = do
  known ← check Key (has_only (codes "do" ∷ codes "id" ∷ codes "colour" ∷ codes "rects" ∷ []) table)
  id ← whole (codes "id") table
  digits ← text (codes "colour") table
  rects ← list (codes "rects") table
  numbers ← check Key (list_all are_whole rects)
  id ← within 0 MOST_NUMBER id
  few ← check Range (nat_le 1 (length rects) && nat_le (length rects) MOST_RECTS)
  rects ← each rect_in rects
  colour ← colour_of digits
  Ok (Fill id colour rects)

-- the copy of these ids, this rectangle and these points, whose types are right
unfoldable pub copy_between : ℤ → ℤ → List Data → List Data → Result Step ScriptKind
copy_between from to corners points = do
  from ← within 0 MOST_NUMBER from
  to ← within 0 MOST_NUMBER to
  rect ← rect_of corners
  points ← points_of points
  Ok (Copy from to rect points)

-- `copy`
unfoldable pub copy_of : Members → Result Step ScriptKind
copy_of table = do
  known ← check Key (has_only (codes "do" ∷ codes "from" ∷ codes "to" ∷ codes "rect" ∷ codes "points" ∷ []) table)
  from ← whole (codes "from") table
  to ← whole (codes "to") table
  corners ← numbers_at (codes "rect") table
  points ← arrays_at (codes "points") table
  copy_between from to corners points

-- `keep`
unfoldable pub keep_of : Members → Result Step ScriptKind
keep_of table = do
  known ← check Key (has_only (codes "do" ∷ codes "id" ∷ codes "key" ∷ codes "rect" ∷ []) table)
  id ← whole (codes "id") table
  key ← whole (codes "key") table
  corners ← numbers_at (codes "rect") table
  id ← within 0 MOST_NUMBER id
  key ← within 0 MOST_KEY key
  rect ← rect_of corners
  Ok (Keep id key rect)

-- `show`
unfoldable pub show_of : Members → Result Step ScriptKind
show_of table = do
  known ← check Key (has_only (codes "do" ∷ codes "key" ∷ codes "to" ∷ codes "points" ∷ []) table)
  key ← whole (codes "key") table
  to ← whole (codes "to") table
  points ← arrays_at (codes "points") table
  key ← within 0 MOST_KEY key
  to ← within 0 MOST_NUMBER to
  points ← points_of points
  Ok (Show key to points)

-- `forget`
unfoldable pub forget_of : Members → Result Step ScriptKind
forget_of table = do
  known ← check Key (has_only (codes "do" ∷ codes "key" ∷ []) table)
  key ← whole (codes "key") table
  key ← within 0 MOST_KEY key
  Ok (Forget key)

-- the kind that a word names: with "auto" the server's end chooses one
abbrev pub kind_named : List ℕ → Result (Option Kind) ScriptKind
kind_named word =
    if bytes_eq word (codes "raw") then Ok (Some Raw)
    else if bytes_eq word (codes "residual") then Ok (Some Residual)
    else if bytes_eq word (codes "bands") then Ok (Some Bands)
    else if bytes_eq word (codes "palette") then Ok (Some Palette)
    else if bytes_eq word (codes "plain") then Ok (Some Plain)
    else if bytes_eq word (codes "progressive") then Ok (Some Progressive)
    else if bytes_eq word (codes "auto") then Ok None
    else if bytes_eq word (codes "video") then Ok (Some Video)
    else Err Key

-- the kind, which may be missing
abbrev pub kind_or_auto : Option Data → Result (Option Kind) ScriptKind
kind_or_auto None = Ok None
kind_or_auto (Some value) = do
  word ← ok_or (as_str value) Key
  kind_named word

-- the index of a glyph, which may be missing
unfoldable pub glyph_of : Option ℤ → Result (Option ℕ) ScriptKind
glyph_of None = Ok None
glyph_of (Some number) = do
  index ← within 0 MOST_GLYPH number
  Ok (Some index)

-- the paint of a picture of this number, whose types are right
unfoldable pub paint_with : ℤ → ℕ → List Data → Option Kind → Option ℤ → Result Step ScriptKind
paint_with id picture place kind glyph = do
  id ← within 0 MOST_NUMBER id
  at ← point_of place
  glyph ← glyph_of glyph
  Ok (Paint id picture at kind glyph)

-- `paint`, where the pictures have these names
unfoldable pub paint_of : List (List ℕ) → Members → Result Step ScriptKind
paint_of names table = do
  known ← check Key (has_only (codes "do" ∷ codes "id" ∷ codes "picture" ∷ codes "at" ∷ codes "kind" ∷ codes "glyph" ∷ []) table)
  id ← whole (codes "id") table
  name ← text (codes "picture") table
  place ← numbers_at (codes "at") table
  kind ← kind_or_auto (get_member (codes "kind") table)
  glyph ← whole_if_any (get_member (codes "glyph") table)
  paint_with id (number_of names name) place kind glyph

-- `improve`
unfoldable pub improve_of : Members → Result Step ScriptKind
improve_of table = do
  known ← check Key (has_only (codes "do" ∷ codes "id" ∷ []) table)
  id ← whole (codes "id") table
  id ← within 0 MOST_NUMBER id
  Ok (Improve id)

-- `frame`
unfoldable pub frame_of : Members → Result Step ScriptKind
frame_of table = do
  known ← check Key (has_only (codes "do" ∷ []) table)
  Ok Frame

-- the step of a table with this word
unfoldable pub worded : List (List ℕ) → List ℕ → Members → Result Step ScriptKind
worded names word table =
    if bytes_eq word (codes "surface") then surface_of table
    else if bytes_eq word (codes "delete") then delete_of table
    else if bytes_eq word (codes "reset") then reset_of table
    else if bytes_eq word (codes "map") then map_of table
    else if bytes_eq word (codes "fill") then fill_of table
    else if bytes_eq word (codes "copy") then copy_of table
    else if bytes_eq word (codes "keep") then keep_of table
    else if bytes_eq word (codes "show") then show_of table
    else if bytes_eq word (codes "forget") then forget_of table
    else if bytes_eq word (codes "paint") then paint_of names table
    else if bytes_eq word (codes "improve") then improve_of table
    else if bytes_eq word (codes "frame") then frame_of table
    else Err Key

-- the step that a value is, where the pictures have these names
unfoldable pub step_of : List (List ℕ) → Data → Result Step ScriptKind
step_of names value = do
  table ← ok_or (as_table value) Key
  word ← text (codes "do") table
  worded names word table
