use Rattle.gfx_words.proofs.WordLemmas.{only_names_are_commands}
use Rattle.gfx_words.proofs.laws.only_their_names_are_commands.Goals as goal

pub returns : goal.returns
returns c = only_names_are_commands
