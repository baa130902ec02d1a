use Rattle.std.proofs.Common.{Ok, ap, sym, subst, ◌∙◌}
use Rattle.std.proofs.lemmas.Result.{err_from_is_err_and}
use Rattle.gfx_script.specs.Script.{IsAcceptedAtStart}
use Rattle.gfx_script_text.proofs.Accepted.{accepted_with, few_pictures_kept, few_steps_kept, starts_with_kept}
use Rattle.gfx_script_text.proofs.Documents.{fault_read, may_want, script_other, script_read}
use Rattle.gfx_script_text.proofs.reading.read_script_kept.Goals as goal

pub new-requires : goal.new-requires
new-requires c =
    accepted_with c.args.server.now c.args.client.now c.args.text.now _ c.in_ok-parts.ensures.start
    (script_read _ _ _ _ c.in-Ok.ensures.cases.0 c.in-Ok.ensures.cases.1 ∙ c.in_ok-parts.ensures.exact)

pub returns-clause-exact : goal.returns-clause-exact
returns-clause-exact c =
    script_read _ _ _ _ c.in-Ok.ensures.cases.0 c.in-Ok.ensures.cases.1 ∙ c.in_ok-parts.ensures.exact ∙ ap (λ script. Ok script) (sym c.new.ensures)

pub returns-clause-accepted : goal.returns-clause-accepted
returns-clause-accepted c =
    subst IsAcceptedAtStart (sym c.new.ensures) (
    accepted_with c.args.server.now c.args.client.now c.args.text.now _ c.in_ok-parts.ensures.start
    (script_read _ _ _ _ c.in-Ok.ensures.cases.0 c.in-Ok.ensures.cases.1 ∙ c.in_ok-parts.ensures.exact))

pub returns-clause-pictures : goal.returns-clause-pictures
returns-clause-pictures c = few_pictures_kept c.args.server.now c.args.client.now c.args.text.now _ (returns-clause-exact c)

pub returns-clause-steps : goal.returns-clause-steps
returns-clause-steps c = few_steps_kept c.args.server.now c.args.client.now c.args.text.now _ (returns-clause-exact c)

pub returns-clause-start : goal.returns-clause-start
returns-clause-start c = starts_with_kept c.args.server.now c.args.client.now c.args.text.now _ (returns-clause-exact c)

pub returns-in_default-clause-exact : goal.returns-in_default-clause-exact
returns-in_default-clause-exact c = script_other c.args.server.now c.args.client.now c.args.text.now c.in_default.ensures.cases.0

pub returns-in_err-parts-clause-exact : goal.returns-in_err-parts-clause-exact
returns-in_err-parts-clause-exact c =
    let p = err_from_is_err_and c.from_residual.result c.from_residual.ensures.1 in
    rw (p.1, p.2) (fault_read _ _ _ _ _ c.in-Ok.ensures.cases.0 c.in-Ok.ensures.cases.1 c.in_err-parts.ensures.exact)

pub returns-in_err-parts-clause-memory : goal.returns-in_err-parts-clause-memory
returns-in_err-parts-clause-memory c = may_want c.args.text.now c.from_residual.result c.in-Ok.ensures.cases.1
