use Rattle.std.proofs.Common.{◌≡◌, ◌∙◌, subst, true, ap}
use Rattle.std.specs.FinMap.{get}
use Rattle.std.specs.List.{slice_get}
use Rattle.gfx_script.specs.Ways.{goes_by}
use Rattle.gfx_planner.specs.Bitmaps.{sides_kept}
use Rattle.gfx_planner.specs.TileSteps.{goes_in_passes}
use Rattle.gfx_planner.specs.Passes.{passes_as}
use Rattle.gfx_planner.specs.StepMessages.{made_as}
use Rattle.gfx_planner.specs.CanSend.{IsPlaced, CanBeSent}
use Rattle.gfx_planner.proofs.PassesMessages.{all_live, all_made, improving_there, step_lives, step_in_passes, painting_there}
use Rattle.gfx_planner.proofs.passes.passes_messages.Goals as goal

pub paint_in_passes-requires-clause-there : goal.paint_in_passes-requires-clause-there
paint_in_passes-requires-clause-there c =
    let goes : goes_in_passes (goes_by c.args.script.now.thin c.args.kind) ≡ true = rw c.in-Paint.is at c.requires.in_passes in
    (painting_there c.args.script.now c.args.passes.now (get c.args.state.now.shown.surfaces c.in-Paint.id) (slice_get c.args.script.now.pictures c.in-Paint.picture) c.in-Paint.id c.in-Paint.at c.args.plan.now
    (subst CanBeSent (step_in_passes c.args.script.now c.args.state.now c.args.passes.now c.args.plan.now c.args.kind c.in-Paint.kind c.in-Paint.glyph c.in-Paint.id c.in-Paint.picture c.in-Paint.at goes)
    (rw c.in-Paint.is at c.requires.possible))).0

pub paint_in_passes-requires-clause-drawn : goal.paint_in_passes-requires-clause-drawn
paint_in_passes-requires-clause-drawn c =
    let goes : goes_in_passes (goes_by c.args.script.now.thin c.args.kind) ≡ true = rw c.in-Paint.is at c.requires.in_passes in
    (painting_there c.args.script.now c.args.passes.now (get c.args.state.now.shown.surfaces c.in-Paint.id) (slice_get c.args.script.now.pictures c.in-Paint.picture) c.in-Paint.id c.in-Paint.at c.args.plan.now
    (subst CanBeSent (step_in_passes c.args.script.now c.args.state.now c.args.passes.now c.args.plan.now c.args.kind c.in-Paint.kind c.in-Paint.glyph c.in-Paint.id c.in-Paint.picture c.in-Paint.at goes)
    (rw c.in-Paint.is at c.requires.possible))).1

pub paint_in_passes-requires-clause-placed : goal.paint_in_passes-requires-clause-placed
unfolding IsPlaced
paint_in_passes-requires-clause-placed c = rw c.in-Paint.is at c.requires.may.placed

pub improve_in_passes-requires-clause-there : goal.improve_in_passes-requires-clause-there
unfolding made_as
improve_in_passes-requires-clause-there c =
    improving_there c.args.script.now c.args.passes.now (get c.args.state.now.shown.surfaces c.in-Improve.id) c.in-Improve.id c.args.plan.now (rw c.in-Improve.is at c.requires.possible)

pub returns-in-Paint-clause-made : goal.returns-in-Paint-clause-made
returns-in-Paint-clause-made c =
    let goes : goes_in_passes (goes_by c.args.script.now.thin c.args.kind) ≡ true = rw c.in-Paint.is at c.requires.in_passes in
    let is = ap (made_as c.args.script.now c.args.state.now c.args.passes.now c.args.plan.now c.args.kind) c.in-Paint.is
    ∙ step_in_passes c.args.script.now c.args.state.now c.args.passes.now c.args.plan.now c.args.kind c.in-Paint.kind c.in-Paint.glyph c.in-Paint.id c.in-Paint.picture c.in-Paint.at goes in
    all_made c.paint_in_passes.result (λ pdus. pdus.items) c.args.plan.now _ _ is c.paint_in_passes.ensures.made

pub returns-in-Paint-clause-passes : goal.returns-in-Paint-clause-passes
returns-in-Paint-clause-passes c =
    let goes : goes_in_passes (goes_by c.args.script.now.thin c.args.kind) ≡ true = rw c.in-Paint.is at c.requires.in_passes in
    let is = ap (passes_as c.args.script.now (sides_kept c.args.plan.now c.args.state.now.cache.slots) c.args.state.now.shown.surfaces c.args.passes.now c.args.kind) c.in-Paint.is
    ∙ step_lives c.args.script.now (sides_kept c.args.plan.now c.args.state.now.cache.slots) c.args.state.now.shown.surfaces c.args.passes.now c.args.kind c.in-Paint.kind c.in-Paint.glyph c.in-Paint.id c.in-Paint.picture c.in-Paint.at goes in
    all_live c.paint_in_passes.result _ _ _ is c.paint_in_passes.ensures.passes

pub returns-in-Improve-clause-made : goal.returns-in-Improve-clause-made
unfolding made_as
returns-in-Improve-clause-made c =
    all_made c.improve_in_passes.result (λ pdus. pdus.items) c.args.plan.now _ _ (ap (made_as c.args.script.now c.args.state.now c.args.passes.now c.args.plan.now c.args.kind) c.in-Improve.is) c.improve_in_passes.ensures.made

pub returns-in-Improve-clause-passes : goal.returns-in-Improve-clause-passes
unfolding passes_as
returns-in-Improve-clause-passes c =
    all_live c.improve_in_passes.result _ _ _ (ap (passes_as c.args.script.now (sides_kept c.args.plan.now c.args.state.now.cache.slots) c.args.state.now.shown.surfaces c.args.passes.now c.args.kind) c.in-Improve.is) c.improve_in_passes.ensures.passes
