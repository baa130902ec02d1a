use Rattle.std.proofs.Common.{◌∙◌}
use Rattle.gfx_words.proofs.LineLemmas.{matched_by_texts}
use Rattle.gfx_words.proofs.line.command_matched.Goals as goal

pub returns : goal.returns
returns c = c.command_named.ensures
    ∙ matched_by_texts c.args.matches.now _ _ _ c.get_str.ensures c.has_output.ensures c.get_str-2.ensures
