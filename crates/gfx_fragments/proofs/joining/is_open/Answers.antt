use Rattle.std.proofs.Common.{◌∙◌, ◌||◌, not, ap, is_some}
use Rattle.std.specs.Prelude.{is_err}
use Rattle.gfx_fragments.specs.Found.{has_bytes}
use Rattle.gfx_fragments.proofs.TurnLemmas.{fragments-open}
use Rattle.gfx_fragments.proofs.joining.is_open.Goals as goal

pub returns : goal.returns
returns c = λ none.
    ap (λ z. z || not c.is_empty.result) (c.is_err.ensures.value ∙ ap is_err c.finish.ensures ∙ fragments-open c.args.taker.now.joiner none)
    ∙ ap (λ z. is_some c.args.taker.now.joiner.message || not z) c.is_empty.ensures
    ∙ ap (λ z. is_some c.args.taker.now.joiner.message || has_bytes z) c.rest.ensures
