use Rattle.std.proofs.Common.{false, ap, ◌∙◌, refl}
use Rattle.gfx_planner.specs.Server.{at_start}
use Rattle.gfx_planner.specs.Planned.{ready}
use Rattle.gfx_schedule.specs.Starts.{from_nothing}
use Rattle.gfx_schedule.proofs.Turns.{may_begin}
use Rattle.gfx_session.proofs.Plans.{opened_is, opened_stands}
use Rattle.gfx_session.proofs.server_end.ServerEnd.new.Goals as goal

pub returns-clause-stands : goal.returns-clause-stands
returns-clause-stands c = λ kinded fits.
    opened_stands c.opened.result c.args.script c.in_ok-planner.planner false c.args.digests (from_nothing c.args.script) kinded c.opened.ensures (c.in_ok-planner.ensures ∙ ap (λ b. ready (at_start b)) c.small.ensures) refl fits

pub returns-clause-is : goal.returns-clause-is
returns-clause-is c = (
  opened_is c.opened.result c.args.script c.in_ok-planner.planner false c.args.digests (from_nothing c.args.script) c.opened.ensures (c.in_ok-planner.ensures ∙ ap (λ b. ready (at_start b)) c.small.ensures)
      (λ kinded fits. may_begin c.args.script kinded c.requires fits),
  c.opened.ensures.script,
  c.opened.ensures.unclosed,
  c.opened.ensures.digests,
)
