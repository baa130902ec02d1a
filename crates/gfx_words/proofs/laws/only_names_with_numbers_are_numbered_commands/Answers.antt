use Rattle.gfx_words.proofs.WordLemmas.{only_names_and_numbers_are_commands}
use Rattle.gfx_words.proofs.laws.only_names_with_numbers_are_numbered_commands.Goals as goal

pub returns : goal.returns
returns c = only_names_and_numbers_are_commands
