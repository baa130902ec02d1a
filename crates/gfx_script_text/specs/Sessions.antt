-- What a script says of its session, but for the client's offers: the window and the turns. This
-- project's own rule.
use Rattle.std.specs.Prelude.{ℕ, ℤ, nat_le, if◌then◌else◌, List, [], ◌∷◌, length, Option, Some, None, Result, Ok, Err, codes}
use Rattle.std.specs.Option.{ok_or}
use Rattle.std.specs.Str.{bytes_eq}
use Rattle.toml.specs.Data.{Data, Members, as_table}
use Rattle.gfx_base.specs.Results.{◌>>=◌, check, each}
use Rattle.gfx_script.specs.declared.TheConstants.{MOST_WINDOW, MOST_TURNS, USUAL_WINDOW}
use Rattle.gfx_script.specs.declared.error.ScriptKind.{ScriptKind}
use Rattle.gfx_script.specs.declared.error.ScriptKind.TheVariants.{Key, Range}
use Rattle.gfx_script.specs.declared.turn.Turn.{Turn}
use Rattle.gfx_script.specs.declared.turn.Turn.TheVariants.{Server, Client, Answer}
use Rattle.gfx_script_text.specs.declared.TheConstants.{MOST_TAKE}
use Rattle.gfx_script_text.specs.Members.{has_only, whole, text, within}

-- the window, which may be missing
unfoldable pub window_of : Option ℤ → Result ℕ ScriptKind
window_of None = Ok USUAL_WINDOW
window_of (Some number) = within 1 MOST_WINDOW number

-- how many bytes a turn takes
unfoldable pub taken_of : Members → Result ℕ ScriptKind
taken_of table = do
  known ← check Key (has_only (codes "end" ∷ codes "take" ∷ []) table)
  number ← whole (codes "take") table
  within 1 MOST_TAKE number

-- the turn of a table that takes nothing
unfoldable pub server_of : Members → Result Turn ScriptKind
server_of table = do
  known ← check Key (has_only (codes "end" ∷ []) table)
  Ok Server

-- the turns of tables that take bytes
unfoldable pub client_of : Members → Result Turn ScriptKind
client_of table = do
  number ← taken_of table
  Ok (Client number)

unfoldable pub answer_of : Members → Result Turn ScriptKind
answer_of table = do
  number ← taken_of table
  Ok (Answer number)

-- the turn of a table with this word
unfoldable pub ended : List ℕ → Members → Result Turn ScriptKind
ended word table =
    if bytes_eq word (codes "server") then server_of table
    else if bytes_eq word (codes "client") then client_of table
    else if bytes_eq word (codes "answer") then answer_of table
    else Err Key

-- the turn that a value is
unfoldable pub turn_of : Data → Result Turn ScriptKind
turn_of value = do
  table ← ok_or (as_table value) Key
  word ← text (codes "end") table
  ended word table

-- the turns of a script
unfoldable pub turns_of : List Data → Result (List Turn) ScriptKind
turns_of values = do
  few ← check Range (nat_le (length values) MOST_TURNS)
  each turn_of values
