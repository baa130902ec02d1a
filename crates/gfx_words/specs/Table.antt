-- The table of commands, which is this project's own.
use Rattle.std.specs.Prelude.{ℕ, ◌^◌, ◌&&◌, Bool, true, false, List, length, Option, Some, None, codes, if◌then◌else◌, nat_lt, option_and_then}
use Rattle.std.specs.Char.{is_ascii_digit}
use Rattle.std.specs.Int.{is_in_range}
use Rattle.std.specs.List.{list_all}
use Rattle.std.specs.Str.{bytes_eq}
use Rattle.std.specs.Str.Parse.{digits_value}
use Rattle.gfx_words.specs.declared.table.Command.{Command}
use Rattle.gfx_words.specs.declared.table.Command.TheVariants.{Audit, Encode, Fragment, Import, Join, Make, Render, RenderOutput, Session, Trial}

-- the command that a name alone is
unfoldable pub plain_command : List ℕ → Option Command
plain_command name = if bytes_eq name (codes "encode") then Some Encode
    else if bytes_eq name (codes "render") then Some Render
    else if bytes_eq name (codes "audit") then Some Audit
    else if bytes_eq name (codes "session") then Some Session
    else if bytes_eq name (codes "import") then Some Import
    else if bytes_eq name (codes "fragment") then Some Fragment
    else if bytes_eq name (codes "join") then Some Join else None

-- the command that a name with the flag `--output` is
unfoldable pub output_command : List ℕ → Option Command
output_command name = if bytes_eq name (codes "render") then Some RenderOutput else None

-- the text is one to ten decimal digits and nothing else
abbrev pub is_numeral : List ℕ → Bool
is_numeral text = is_in_range 1 10 (length text) && list_all is_ascii_digit text

-- the number that one to ten decimal digits write, where it is below 2 ^ 32
unfoldable pub number_of : List ℕ → Option ℕ
number_of text = if is_numeral text && nat_lt (digits_value 10 text) (2 ^ 32)
    then Some (digits_value 10 text) else None

-- the command that a name and a number are
unfoldable pub numbered_command : List ℕ → ℕ → Option Command
numbered_command name number = if bytes_eq name (codes "make") then Some (Make number)
    else if bytes_eq name (codes "trial") then Some (Trial number) else None

-- the command that a name, the flag `--output` and the text of a number make
abbrev pub command_named : Option (List ℕ) → Bool → Option (List ℕ) → Option Command
command_named (Some name) false None = plain_command name
command_named (Some name) true None = output_command name
command_named (Some name) false (Some text) = option_and_then (numbered_command name) (number_of text)
command_named _ _ _ = None
