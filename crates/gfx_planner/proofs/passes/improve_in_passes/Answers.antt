use Rattle.std.proofs.Common.{◌≡◌, Some, rules}
use Rattle.std.specs.FinMap.{get}
use Rattle.gfx_planner.proofs.PassesMessages.{improve_live, improve_made, on_ok}
use Rattle.gfx_planner.proofs.passes.improve_in_passes.Goals as goal

pub returns-clause-made : goal.returns-clause-made
returns-clause-made c =
    let there : get c.args.state.now.shown.surfaces c.args.id ≡ Some c.in-Some.surface.now = search rules in
    improve_made c.as_messages.result (λ pdus. pdus.items) c.args.script.now c.setting.result.now c.args.passes.now (get c.args.state.now.shown.surfaces c.args.id) c.in-Some.surface.now
    c.args.id c.size-width.result c.format.result c.in_ok-all.all.items there c.setting.ensures c.size-width.ensures.size c.format.ensures c.in_ok-all.ensures.data c.as_messages.ensures

pub returns-clause-passes : goal.returns-clause-passes
returns-clause-passes c =
    let there : get c.args.state.now.shown.surfaces c.args.id ≡ Some c.in-Some.surface.now = search rules in
    on_ok c.as_messages.result _ (improve_live c.args.passes.now c.improve.new.self (get c.args.state.now.shown.surfaces c.args.id) c.in-Some.surface.now c.args.id c.size-width.result there c.size-width.ensures.size c.in_ok-all.ensures.passes)
