use Rattle.gfx_words.proofs.WordLemmas.{only_render_and_flag_are_render_output}
use Rattle.gfx_words.proofs.laws.only_render_and_its_flag_are_render_output.Goals as goal

pub returns : goal.returns
returns c = only_render_and_flag_are_render_output
