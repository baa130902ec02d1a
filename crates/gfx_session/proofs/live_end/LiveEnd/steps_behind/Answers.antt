use Rattle.std.proofs.Common.{sym, ◌∙◌, arith}
use Rattle.gfx_session.proofs.LiveLemmas.{behind_few, behind_within}
use Rattle.gfx_session.proofs.live_end.LiveEnd.steps_behind.Goals as goal

pub steps_behind-requires-clause-within : goal.steps_behind-requires-clause-within
steps_behind-requires-clause-within c = λ fresh. behind_within c.args.self.now c.requires fresh

pub overflow_add-result : goal.overflow_add-result
overflow_add-result c = omega (arith, behind_few c.args.self.now c.steps_behind.result c.len.result c.requires (sym c.is_spent.ensures ∙ c.if-is_spent.false) c.steps_behind.ensures c.len.ensures)
