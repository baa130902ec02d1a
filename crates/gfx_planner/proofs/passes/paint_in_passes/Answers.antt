use Rattle.std.proofs.Common.{◌≡◌, ◌∙◌, Some, option_map, sym, rules}
use Rattle.std.specs.FinMap.{get}
use Rattle.std.specs.List.{slice_get}
use Rattle.gfx_base.specs.Geometry.{moved, sized}
use Rattle.gfx_planner.proofs.PassesMessages.{on_ok, paint_live, paint_made}
use Rattle.gfx_planner.proofs.Payloads.{sides}
use Rattle.gfx_planner.proofs.passes.paint_in_passes.Goals as goal

pub returns-clause-made : goal.returns-clause-made
returns-clause-made c =
    let there : get c.args.state.now.shown.surfaces c.args.id ≡ Some c.in-Some.surface.now = search rules in
    let drawn : option_map sides (slice_get c.args.script.now.pictures c.args.picture) ≡ Some (c.in-Some-picture_size.width, c.in-Some-picture_size.height) = sym c.picture_size.ensures ∙ c.in-Some-picture_size.is in
    let rect : c.moved_to-rect.result ≡ moved (sized c.in-Some-picture_size.width c.in-Some-picture_size.height) c.args.at = search rules in
    paint_made c.as_messages.result (λ pdus. pdus.items) c.args.script.now c.args.passes.now (get c.args.state.now.shown.surfaces c.args.id) (slice_get c.args.script.now.pictures c.args.picture) c.in-Some.surface.now
    c.in-Some-picture_size.width c.in-Some-picture_size.height c.args.id c.args.at c.moved_to-rect.result c.format.result c.in_ok-all.all.items there drawn c.format.ensures rect c.in_ok-all.ensures.data c.as_messages.ensures

pub returns-clause-passes : goal.returns-clause-passes
returns-clause-passes c =
    let drawn : option_map sides (slice_get c.args.script.now.pictures c.args.picture) ≡ Some (c.in-Some-picture_size.width, c.in-Some-picture_size.height) = sym c.picture_size.ensures ∙ c.in-Some-picture_size.is in
    let rect : c.moved_to-rect.result ≡ moved (sized c.in-Some-picture_size.width c.in-Some-picture_size.height) c.args.at = search rules in
    on_ok c.as_messages.result _ (paint_live c.args.script.now c.args.passes.now c.paint.new.self (slice_get c.args.script.now.pictures c.args.picture)
    c.in-Some-picture_size.width c.in-Some-picture_size.height c.args.id c.args.at c.moved_to-rect.result drawn rect c.in_ok-all.ensures.passes)
