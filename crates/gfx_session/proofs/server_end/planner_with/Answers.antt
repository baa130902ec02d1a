use Rattle.std.proofs.Common.{sym, ap, ◌∙◌}
use Rattle.gfx_import.specs.Imported.{imported}
use Rattle.gfx_planner.specs.Server.{at_start, server_with}
use Rattle.gfx_planner.specs.Planned.{Planned, ready}
use Rattle.gfx_session.proofs.server_end.planner_with.Goals as goal

pub import-requires : goal.import-requires
import-requires c = c.in_ok-planner.ensures ∙ ap (λ b. ready (at_start b)) (sym (ap (λ (p : Planned). p.server.plan.small) c.in_ok-planner.ensures))

pub returns-in-Ok : goal.returns-in-Ok
returns-in-Ok c =
    c.in-Ok.ensures.ok ∙ ap (λ b. ready (server_with (imported c.args.server.now c.args.client.now b) b)) (ap (λ (p : Planned). p.server.plan.small) c.in_ok-planner.ensures)
