use Rattle.std.proofs.Common.{Ok, ap, ◌∙◌}
use Rattle.gfx_base.proofs.Wanting.{wants_due}
use Rattle.gfx_dvc.proofs.PassedLemmas.{passed-ok, step-passed, step-refused}
use Rattle.gfx_dvc.proofs.joiner.Joiner.join.Goals as goal

pub put-requires-clause-clear : goal.put-requires-clause-clear
put-requires-clause-clear c = (passed-ok _ _ _ c.in-Ok.ensures).clear

pub put-requires-clause-room : goal.put-requires-clause-room
put-requires-clause-room c = (passed-ok _ _ _ c.in-Ok.ensures).room

pub returns-in_err-put-in-Ok-clause-memory : goal.returns-in_err-put-in-Ok-clause-memory
returns-in_err-put-in-Ok-clause-memory c = wants_due c.from_residual.result _ _ (step-passed _ _ _ c.in-Ok.ensures)

pub returns-in_ok-put-in-Ok-clause-exact : goal.returns-in_ok-put-in-Ok-clause-exact
returns-in_ok-put-in-Ok-clause-exact c = step-passed _ _ _ c.in-Ok.ensures ∙ ap (λ z. Ok z) c.in_ok-put-in-Ok.ensures

pub returns-in-Err-clause-exact : goal.returns-in-Err-clause-exact
returns-in-Err-clause-exact c = (step-refused _ _ _ c.in-Err.ensures, c.keep.ensures)
