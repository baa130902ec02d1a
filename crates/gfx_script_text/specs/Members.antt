-- What stands under the keys of a table of a script: this project's own rule, over the data of a TOML
-- text.
use Rattle.std.specs.Prelude.{ℕ, ℤ, pos, negsuc, Bool, true, false, ◌&&◌, nat_le, if◌then◌else◌, List, [], ◌∷◌, Option, Some, None, Result, Ok, Err}
use Rattle.std.specs.List.{list_any}
use Rattle.std.specs.Option.{ok_or, option_map, option_and_then}
use Rattle.std.specs.Str.{bytes_eq}
use Rattle.toml.specs.Data.{Data, Items, no_items, item, Members, no_members, member, get_member, as_str, as_bool, as_integer, as_array, as_table}
use Rattle.gfx_base.specs.Results.{◌>>=◌}
use Rattle.gfx_script.specs.declared.error.ScriptKind.{ScriptKind}
use Rattle.gfx_script.specs.declared.error.ScriptKind.TheVariants.{Key, Range}

-- the items of an array
abbrev pub listed : Items → List Data
listed no_items = []
listed (item one more) = one ∷ listed more

-- the items of a value that is an array
unfoldable pub items_in : Data → Option (List Data)
items_in value = option_map listed (as_array value)

-- each key of the table is one of these
abbrev pub has_only : List (List ℕ) → Members → Bool
has_only keys no_members = true
has_only keys (member key value more) = list_any (λ one. bytes_eq one key) keys && has_only keys more

-- the whole number at a key
unfoldable pub whole : List ℕ → Members → Result ℤ ScriptKind
whole key table = ok_or (option_and_then as_integer (get_member key table)) Key

-- a whole number, which may be missing
abbrev pub whole_if_any : Option Data → Result (Option ℤ) ScriptKind
whole_if_any None = Ok None
whole_if_any (Some value) = do
  number ← ok_or (as_integer value) Key
  Ok (Some number)

-- a truth value, which may be missing and is then false
abbrev pub flag_or_false : Option Data → Result Bool ScriptKind
flag_or_false None = Ok false
flag_or_false (Some value) = ok_or (as_bool value) Key

-- the text at a key
unfoldable pub text : List ℕ → Members → Result (List ℕ) ScriptKind
text key table = ok_or (option_and_then as_str (get_member key table)) Key

-- the items of the array at a key
unfoldable pub list : List ℕ → Members → Result (List Data) ScriptKind
list key table = ok_or (option_and_then items_in (get_member key table)) Key

-- the items of an array, which may be missing
abbrev pub items_if_any : Option Data → Result (Option (List Data)) ScriptKind
items_if_any None = Ok None
items_if_any (Some value) = do
  items ← ok_or (items_in value) Key
  Ok (Some items)

-- the table that may be missing
abbrev pub table_if_any : Option Data → Result (Option Members) ScriptKind
table_if_any None = Ok None
table_if_any (Some value) = do
  table ← ok_or (as_table value) Key
  Ok (Some table)

-- a whole number from the least to the most
unfoldable pub within : ℕ → ℕ → ℤ → Result ℕ ScriptKind
within least most (pos n) = if nat_le least n && nat_le n most then Ok n else Err Range
within least most (negsuc n) = Err Range
