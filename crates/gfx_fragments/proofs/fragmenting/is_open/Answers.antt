use Rattle.std.proofs.Common.{◌∙◌, ap}
use Rattle.std.specs.Prelude.{is_err}
use Rattle.gfx_fragments.proofs.TurnLemmas.{stream-open}
use Rattle.gfx_fragments.proofs.fragmenting.is_open.Goals as goal

pub returns : goal.returns
returns c = λ none. c.is_err.ensures.value ∙ ap is_err c.finish.ensures ∙ stream-open c.args.taker.now.splitter none
