use Rattle.std.proofs.Common.{◌∙◌, Some, None}
use Rattle.gfx_words.proofs.LineLemmas.{output_by_text}
use Rattle.gfx_words.proofs.line.has_output.Goals as goal

pub returns-in-Some : goal.returns-in-Some
returns-in-Some c = let h = c.in-Some.ensures in let e = c.eq.ensures in
    c.eq.ensures ∙ output_by_text c.args.matches.now (Some c.in-Some.text.now) c.in-Some.ensures

pub returns-in-None : goal.returns-in-None
returns-in-None c = output_by_text c.args.matches.now None c.in-None.ensures
