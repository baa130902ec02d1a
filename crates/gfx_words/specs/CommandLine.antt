-- The command line as `clap` reads it, and the command that its matches are.
use Rattle.std.specs.Prelude.{Bool, true, false, List, Option, Some, None, codes}
use Rattle.std.specs.Prelude.{if◌then◌else◌}
use Rattle.std.specs.Option.{option_map_or}
use Rattle.std.specs.Str.{bytes_eq}
use Rattle.clap.specs.Walk.{is_empty}
use Rattle.clap.specs.Simple.{on_top}
use Rattle.clap.specs.Words.{App, Row, Rule, Text, fault_of, first_of, matches_of, new_app, new_rule}
use Rattle.clap.specs.Words.{with_rule}
use Rattle.clap.specs.declared.builder.action.ArgAction.TheVariants.{SetTrue}
use Rattle.gfx_words.specs.Table.{command_named}
use Rattle.gfx_words.specs.declared.table.Command.{Command}

-- the required name of the command
abbrev pub name_rule : Rule
name_rule = record (new_rule (codes "command")) { required = true }

-- the number behind it, which may be left out
abbrev pub number_rule : Rule
number_rule = new_rule (codes "number")

-- the flag `--output`
abbrev pub output_rule : Rule
output_rule = record (new_rule (codes "output")) { long = Some (codes "output"); action = Some SetTrue }

-- the command of `clap`, whose words start behind the program's name
abbrev pub empty_line : App
empty_line = on_top (λ s. record s { no_binary_name = true }) (new_app (codes "gfxpipe"))

abbrev pub command_line : App
command_line = with_rule (with_rule (with_rule empty_line name_rule) number_rule) output_rule

-- the flag was given
abbrev pub has_output : List Row → Bool
has_output rows = option_map_or (λ text. bytes_eq text (codes "true")) (first_of (codes "output") rows) false

-- the command that the matches are, by the table
abbrev pub command_matched : List Row → Option Command
command_matched rows =
    command_named (first_of (codes "command") rows) (has_output rows) (first_of (codes "number") rows)

-- the command that the words behind the program's name are; None is a usage error
unfoldable pub accepted : List Text → Option Command
accepted words = if is_empty (fault_of command_line words)
    then command_matched (matches_of command_line words) else None
