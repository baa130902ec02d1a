use Rattle.std.proofs.Common.{◌==◌, ap, sym, ◌∙◌}
use Rattle.gfx_session.proofs.LiveImproving.{idle_fresh, improves, tiles_by}
use Rattle.gfx_session.proofs.live_end.LiveEnd.improve_idle.Goals as goal

pub raisable-requires : goal.raisable-requires
raisable-requires c = tiles_by c.args.self.now.end (c.requires.end.in_step (idle_fresh c.args.self.now (sym c.is_idle.ensures ∙ c.if-not-is_idle.false)))

pub returns-clause-improves : goal.returns-clause-improves
returns-clause-improves c = (
  sym c.is_idle.ensures ∙ c.if-not-is_idle.false,
  improves c.args.self.now c.improve_each.new.self c.in_ok-ids.ids.items c.as_slice.result.now c.in_ok-ids.ensures (ap (λ n. n == 0) (sym c.in_ok-ids.ids.ok.0) ∙ sym c.is_empty.ensures ∙ c.if-is_empty.false) c.as_slice.ensures.value
      c.in_ok-improve_each.ensures.feeds.1 c.in_ok-improve_each.ensures.stands,
)
