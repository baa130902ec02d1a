use Rattle.std.proofs.Common.{true, ap, ◌∙◌, refl}
use Rattle.gfx_import.specs.Imported.{imported}
use Rattle.gfx_planner.specs.Server.{server_with}
use Rattle.gfx_planner.specs.Planned.{ready}
use Rattle.gfx_schedule.specs.Starts.{from_kept}
use Rattle.gfx_schedule.proofs.Importing.{import_may_begin}
use Rattle.gfx_session.proofs.Plans.{opened_is, opened_stands}
use Rattle.gfx_session.proofs.server_end.ServerEnd.with_kept.Goals as goal

pub returns-clause-stands : goal.returns-clause-stands
returns-clause-stands c = λ kinded fits.
    let planner = c.in_ok-planner.ensures ∙ ap (λ b. ready (server_with (imported c.args.server.now c.args.client.now b) b)) c.small.ensures in
    opened_stands c.opened.result c.args.script c.in_ok-planner.planner true c.args.digests (from_kept c.args.script c.args.server.now c.args.client.now) kinded c.opened.ensures planner refl fits

pub returns-clause-is : goal.returns-clause-is
returns-clause-is c =
    let planner = c.in_ok-planner.ensures ∙ ap (λ b. ready (server_with (imported c.args.server.now c.args.client.now b) b)) c.small.ensures in (
      opened_is c.opened.result c.args.script c.in_ok-planner.planner true c.args.digests (from_kept c.args.script c.args.server.now c.args.client.now) c.opened.ensures planner
          (λ kinded fits. import_may_begin c.args.script c.args.server.now c.args.client.now kinded c.requires fits),
      c.opened.ensures.script,
      c.opened.ensures.unclosed,
      c.opened.ensures.digests,
    )
