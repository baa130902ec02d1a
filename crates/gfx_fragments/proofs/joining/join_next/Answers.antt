use Rattle.std.proofs.Common.{◌∙◌, sym, ap, refl, Some}
use Rattle.gfx_base.specs.declared.refusal.Refusal.TheVariants.{ChannelLength}
use Rattle.gfx_fragments.specs.Cut.{next_fragment}
use Rattle.gfx_fragments.proofs.JoiningTurns.{none_turns, wrong_turns}
use Rattle.gfx_fragments.proofs.joining.join_next.Goals as goal

pub returns-in-Short-clause-turns : goal.returns-in-Short-clause-turns
returns-in-Short-clause-turns g c = λ bytes before held start.
    none_turns _ c.args.taker.now bytes start (ap next_fragment (sym c.rest.ensures) ∙ c.in-Short.ensures)

pub returns-in-Bad-clause-turns : goal.returns-in-Bad-clause-turns
returns-in-Bad-clause-turns g c = λ bytes before held start.
    wrong_turns _ c.args.taker.now (record c.args.taker.now { refusal = Some ChannelLength }) bytes start (ap next_fragment (sym c.rest.ensures) ∙ c.in-Bad.ensures) refl refl
