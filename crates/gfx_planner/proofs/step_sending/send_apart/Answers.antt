use Rattle.std.proofs.Common.{◌≡◌, ◌∙◌, Some, ap, sym, subst}
use Rattle.std.specs.Prelude.{IfSome}
use Rattle.gfx_prog_live.specs.Live.{at_start}
use Rattle.gfx_planner.specs.ClearPaints.{MayPaintClear, clear_paint_of}
use Rattle.gfx_planner.proofs.ClearPaintLemmas.{made_sent}
use Rattle.gfx_planner.proofs.step_sending.send_apart.Goals as goal

pub returns-in-Some : goal.returns-in-Some
returns-in-Some c =
    let thin = ap (λ t. clear_paint_of t c.args.kind c.args.step.now) (sym c.thin.ensures) in
    let is : clear_paint_of c.args.script.now.thin c.args.kind c.args.step.now ≡ Some c.in-Some.paint = thin ∙ sym c.clear_paint.ensures ∙ c.in-Some.is in
    made_sent c.send_paint.result c.args.script.now c.args.sender.now c.send_paint.new.sender at_start c.args.plan.now c.args.kind c.args.step.now c.in-Some.paint c.args.out.now c.send_paint.new.out
    (subst (λ o. IfSome o (MayPaintClear c.args.script.now c.args.sender.now)) is c.requires.paint) is c.send_paint.ensures
