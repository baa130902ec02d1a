use Rattle.std.proofs.Common.{◌∙◌, ◌++◌, ap, subst}
use Rattle.std.proofs.lemmas.Result.{err_from_is_err_and}
use Rattle.gfx_base.specs.Stream.{change, Gains, FailsAfter}
use Rattle.gfx_base.proofs.Streams.{Gains_none}
use Rattle.gfx_dvc.specs.Cutting.{recorded}
use Rattle.gfx_fragments.proofs.fragmenting.put_message.Goals as goal

pub returns-in_err-split-clause-text : goal.returns-in_err-split-clause-text
returns-in_err-split-clause-text g c =
    let p = err_from_is_err_and c.from_residual.result c.from_residual.ensures.1 in
    rw (p.1, p.2) (Gains_none _ _)

pub returns-in-Ok-clause-text : goal.returns-in-Ok-clause-text
returns-in-Ok-clause-text g c =
    let text = c.as_slice-2.ensures ∙ c.in_ok-split.ensures.ok ∙ ap (λ z. z ++ recorded c.as_slice.result.now) c.truncate.ensures ∙ ap recorded c.as_slice.ensures in
    subst (Gains (change (g.O.Sink.faults c.args.out.now) (g.O.Sink.faults c.write_all.new.out) (g.O.Sink.held c.args.out.now) (g.O.Sink.held c.write_all.new.out))) text c.in-Ok.ensures

pub returns-clause-text : goal.returns-clause-text
returns-clause-text g c =
    let text = c.as_slice-2.ensures ∙ c.in_ok-split.ensures.ok ∙ ap (λ z. z ++ recorded c.as_slice.result.now) c.truncate.ensures ∙ ap recorded c.as_slice.ensures in
    subst (FailsAfter (change (g.O.Sink.faults c.args.out.now) (g.O.Sink.faults c.write_all.new.out) (g.O.Sink.held c.args.out.now) (g.O.Sink.held c.write_all.new.out))) text c.in-Err.ensures
