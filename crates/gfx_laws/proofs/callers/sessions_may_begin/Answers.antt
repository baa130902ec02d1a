use Rattle.gfx_laws.proofs.Calling.{accepted_may_begin, chosen_kinds_fit, kept_holds_at_start}
use Rattle.gfx_laws.proofs.callers.sessions_may_begin.Goals as goal

pub returns-clause-nothing : goal.returns-clause-nothing
returns-clause-nothing c = accepted_may_begin

pub returns-clause-chosen : goal.returns-clause-chosen
returns-clause-chosen c = chosen_kinds_fit

pub returns-clause-kept : goal.returns-clause-kept
returns-clause-kept c = kept_holds_at_start
