-- How the progressive paints of a script are coded, and what of it a script says under `progressive`: this project's
-- own rule. In each table all faults of kind Key come before those of kind Range.
use Rattle.std.specs.Prelude.{ℕ, Bool, true, false, IsTrue, ◌==◌, ◌&&◌, nat_le, if◌then◌else◌, List, [], ◌∷◌, length, Option, Some, None, Result, Ok, Err, codes, refl}
use Rattle.std.specs.List.{list_all}
use Rattle.std.specs.Option.{ok_or}
use Rattle.std.specs.Str.{bytes_eq}
use Rattle.toml.specs.Data.{Data, Members, get_member, as_str, as_integer, as_table}
use Rattle.gfx_base.specs.Results.{◌>>=◌, check, each}
use Rattle.gfx_dwt.specs.declared.layout.Transform.{Transform}
use Rattle.gfx_dwt.specs.declared.layout.Transform.TheVariants.{Plain, Reduced}
use Rattle.gfx_quant.specs.declared.quant.Quant.{Quant}
use Rattle.gfx_quant.specs.declared.quant.TheConstants.{LEAST_BASE, MOST_BITS}
use Rattle.gfx_quant.specs.declared.rounding.Rounding.{Rounding}
use Rattle.gfx_quant.specs.declared.rounding.Rounding.TheVariants.{Zero, Nearest}
use Rattle.gfx_quant.specs.declared.setting.Level.{Level}
use Rattle.gfx_quant.specs.declared.setting.Setting.{Setting}
use Rattle.gfx_quant.specs.declared.setting.TheConstants.{MOST_LEVELS}
use Rattle.gfx_quant.specs.Quant.{are_nibbles}
use Rattle.gfx_quant.specs.Setting.{falls_well, is_accepted, stays_within}
use Rattle.gfx_script.specs.declared.error.ScriptKind.{ScriptKind}
use Rattle.gfx_script.specs.declared.error.ScriptKind.TheVariants.{Key, Range}
use Rattle.gfx_script_text.specs.declared.TheConstants.{MOST_LEFT_OUT}
use Rattle.gfx_script_text.specs.declared.levels.Bases.{Bases}
use Rattle.gfx_script_text.specs.declared.progressive.Progressive.{Progressive}
use Rattle.gfx_script_text.specs.Members.{flag_or_false, has_only, items_if_any, items_in, within}
use Rattle.gfx_script_text.specs.Places.{is_whole, numbers_at}

-- ---- what a script may leave out

-- the base of each band, and what the one level leaves out of each
abbrev pub usual_base : Quant
usual_base = record { values = 6 ∷ 6 ∷ 6 ∷ 6 ∷ 6 ∷ 6 ∷ 6 ∷ 6 ∷ 6 ∷ 6 ∷ []; nibbles = refl }

abbrev pub usual_left_out : Quant
usual_left_out = record { values = 4 ∷ 4 ∷ 4 ∷ 4 ∷ 4 ∷ 4 ∷ 4 ∷ 4 ∷ 4 ∷ 4 ∷ []; nibbles = refl }

abbrev pub usual_level : Level
usual_level = record { y = usual_left_out; cb = usual_left_out; cr = usual_left_out }

-- how paints are coded without `progressive`
abbrev pub usual_setting : Setting
usual_setting = record { transform = Reduced; rounding = Zero; y = usual_base; cb = usual_base; cr = usual_base; levels = usual_level ∷ [] }

abbrev pub usual_progressive : Progressive
usual_progressive = record { setting = usual_setting; differences = false }

-- ---- words and numbers

-- the transform that a word names
abbrev pub transform_named : List ℕ → Result Transform ScriptKind
transform_named word =
    if bytes_eq word (codes "plain") then Ok Plain
    else if bytes_eq word (codes "reduced") then Ok Reduced
    else Err Key

-- the transform, which may be missing
abbrev pub transform_or_usual : Option Data → Result Transform ScriptKind
transform_or_usual None = Ok Reduced
transform_or_usual (Some value) = do
  word ← ok_or (as_str value) Key
  transform_named word

-- the rounding that a word names
abbrev pub rounding_named : List ℕ → Result Rounding ScriptKind
rounding_named word =
    if bytes_eq word (codes "zero") then Ok Zero
    else if bytes_eq word (codes "nearest") then Ok Nearest
    else Err Key

-- the rounding, which may be missing
abbrev pub rounding_or_usual : Option Data → Result Rounding ScriptKind
rounding_or_usual None = Ok Zero
rounding_or_usual (Some value) = do
  word ← ok_or (as_str value) Key
  rounding_named word

-- the array of whole numbers that may be missing
abbrev pub numbers_if_any : Option Data → Result (Option (List Data)) ScriptKind
numbers_if_any None = Ok None
numbers_if_any (Some value) = do
  items ← ok_or (items_in value) Key
  numbers ← check Key (list_all is_whole items)
  Ok (Some items)

-- the number that a value is, from the least to the most
unfoldable pub number_in : ℕ → ℕ → Data → Result ℕ ScriptKind
number_in least most value = do
  number ← ok_or (as_integer value) Key
  within least most number

-- that a test holds, or else this refusal
abbrev pub holds_or : {E : Type 0} → E → (holds : Bool) → Result (IsTrue holds) E
holds_or e true = Ok refl
holds_or e false = Err e

-- numbers for the bands, of which each fits four bits
unfoldable pub quant_with : List ℕ → Result Quant ScriptKind
quant_with values = do
  small ← holds_or Range (are_nibbles values)
  Ok record { values = values; nibbles = small }

-- ten numbers for the bands in their order, each from the least to the most
unfoldable pub quant_of : ℕ → ℕ → List Data → Result Quant ScriptKind
quant_of least most items = do
  ten ← check Range (length items == 10)
  values ← each (number_in least most) items
  quant_with values

-- the base of each band of a component, where it is given
unfoldable pub base_of : Option (List Data) → Result Quant ScriptKind
base_of None = Ok usual_base
base_of (Some items) = quant_of LEAST_BASE MOST_BITS items

-- the bases of all components
unfoldable pub bases_of : Option (List Data) → Option (List Data) → Option (List Data) → Result Bases ScriptKind
bases_of y cb cr = do
  y ← base_of y
  cb ← base_of cb
  cr ← base_of cr
  Ok record { y = y; cb = cb; cr = cr }

-- ---- levels

-- the level of these numbers, whose types are right
unfoldable pub level_with : List Data → List Data → List Data → Result Level ScriptKind
level_with y cb cr = do
  y ← quant_of 0 MOST_LEFT_OUT y
  cb ← quant_of 0 MOST_LEFT_OUT cb
  cr ← quant_of 0 MOST_LEFT_OUT cr
  Ok record { y = y; cb = cb; cr = cr }

-- the level that a value is
unfoldable pub level_in : Data → Result Level ScriptKind
level_in value = do
  table ← ok_or (as_table value) Key
  known ← check Key (has_only (codes "y" ∷ codes "cb" ∷ codes "cr" ∷ []) table)
  y ← numbers_at (codes "y") table
  cb ← numbers_at (codes "cb") table
  cr ← numbers_at (codes "cr") table
  level_with y cb cr

-- a level leaves out no more of any component than its bases allow
abbrev pub is_within : Bases → Level → Bool
is_within bases level =
    stays_within bases.y.values level.y.values
    && (stays_within bases.cb.values level.cb.values && stays_within bases.cr.values level.cr.values)

-- a level leaves out as much as the one before it, where there is one, or less by up to 6
abbrev pub follows : Option Level → Level → Bool
follows None level = true
follows (Some before) level =
    falls_well before.y.values level.y.values
    && (falls_well before.cb.values level.cb.values && falls_well before.cr.values level.cr.values)

-- the level that a value is, behind this one, if there is one before it
unfoldable pub next_level : Bases → Option Level → Data → Result Level ScriptKind
next_level bases before value = do
  level ← level_in value
  fits ← check Range (is_within bases level && follows before level)
  Ok level

-- the levels that these values are, one after another
unfoldable pub levels_behind : Bases → Option Level → List Data → Result (List Level) ScriptKind
levels_behind bases before [] = Ok []
levels_behind bases before (value ∷ values) = do
  level ← next_level bases before value
  levels ← levels_behind bases (Some level) values
  Ok (level ∷ levels)

-- the levels of the values of `level`, if there are any
unfoldable pub levels_of : Bases → Option (List Data) → Result (List Level) ScriptKind
levels_of bases None = Ok (usual_level ∷ [])
levels_of bases (Some values) = do
  few ← check Range (nat_le 1 (length values) && nat_le (length values) MOST_LEVELS)
  levels_behind bases None values

-- ---- the whole

-- a setting, if a server may code its paints so
unfoldable pub accepted : Setting → Result Setting ScriptKind
accepted setting = do
  fine ← check Range (is_accepted setting)
  Ok setting

-- the setting of these parts, whose types are right
unfoldable pub setting_with : Transform → Rounding → Option (List Data) → Option (List Data) → Option (List Data) → Option (List Data) → Result Setting ScriptKind
setting_with transform rounding y cb cr levels = do
  bases ← bases_of y cb cr
  levels ← levels_of bases levels
  accepted record { transform = transform; rounding = rounding; y = bases.y; cb = bases.cb; cr = bases.cr; levels = levels }

-- what a table says
unfoldable pub progressive_in : Members → Result Progressive ScriptKind
progressive_in table = do
  known ← check Key (has_only (codes "transform" ∷ codes "rounding" ∷ codes "y" ∷ codes "cb" ∷ codes "cr" ∷ codes "level" ∷ codes "difference" ∷ []) table)
  transform ← transform_or_usual (get_member (codes "transform") table)
  rounding ← rounding_or_usual (get_member (codes "rounding") table)
  y ← numbers_if_any (get_member (codes "y") table)
  cb ← numbers_if_any (get_member (codes "cb") table)
  cr ← numbers_if_any (get_member (codes "cr") table)
  levels ← items_if_any (get_member (codes "level") table)
  differences ← flag_or_false (get_member (codes "difference") table)
  setting ← setting_with transform rounding y cb cr levels
  Ok record { setting = setting; differences = differences }

-- the same of the table under `progressive`, if there is one
unfoldable pub progressive_of : Option Members → Result Progressive ScriptKind
progressive_of None = Ok usual_progressive
progressive_of (Some table) = progressive_in table
