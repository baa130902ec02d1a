use Rattle.std.proofs.Common.{◌++◌, Ok, sym, ◌∙◌, ap, refl}
use Rattle.gfx_base.proofs.Wanting.{wants_due}
use Rattle.gfx_segment.specs.Framing.{front}
use Rattle.gfx_segment.proofs.NextLemmas.{next_refused, next_short, next_bad, next_whole, none_kept}
use Rattle.gfx_segment.proofs.splitter.Splitter.take_raw.Goals as goal

pub returns-in-Some-clause-exact : goal.returns-in-Some-clause-exact
returns-in-Some-clause-exact c = next_refused _ c.args.self.now c.in-Some.refusal (sym c.kept.ensures ∙ c.in-Some.is)

pub returns-in-Short-clause-exact : goal.returns-in-Short-clause-exact
returns-in-Short-clause-exact c =
    next_short _ c.args.self.now (none_kept _ _ c.kept.ensures c.in_default.not-Some) (ap front (sym c.rest.ensures) ∙ c.in-Short.ensures)

pub returns-in-Bad-clause-exact : goal.returns-in-Bad-clause-exact
returns-in-Bad-clause-exact c =
    next_bad _ c.args.self.now c.keep.new.self (none_kept _ _ c.kept.ensures c.in_default.not-Some) (ap front (sym c.rest.ensures) ∙ c.in-Bad.ensures) c.keep.ensures

pub returns-in_ok-append-in-Whole-clause-exact : goal.returns-in_ok-append-in-Whole-clause-exact
returns-in_ok-append-in-Whole-clause-exact c =
    let whole = rw c.rest.ensures at c.in-Whole.ensures.cut in
    let filled = c.in_ok-append-in-Whole.ensures.ok ∙ ap (λ z. z ++ c.message.result.now) c.new-message.ensures ∙ c.message.ensures in
    next_whole _ c.args.self.now c.pass.new.self _ _ c.append.new.self (none_kept _ _ c.kept.ensures c.in_default.not-Some) whole (ap (λ z. Ok z) (sym filled)) c.pass.ensures

pub returns-in_err-append-in-Whole-clause-memory : goal.returns-in_err-append-in-Whole-clause-memory
returns-in_err-append-in-Whole-clause-memory c =
    let whole = rw c.rest.ensures at c.in-Whole.ensures.cut in
    let due = next_whole Ok c.args.self.now _ _ _ _ (none_kept _ _ c.kept.ensures c.in_default.not-Some) whole refl refl in
    wants_due c.from_residual.result _ _ due.0
