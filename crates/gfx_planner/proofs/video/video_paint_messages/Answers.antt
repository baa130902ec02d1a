use Rattle.std.proofs.Common.{◌≡◌, ◌∙◌, subst, true, ap}
use Rattle.std.specs.FinMap.{get}
use Rattle.std.specs.List.{slice_get}
use Rattle.gfx_script.specs.Ways.{goes_by}
use Rattle.gfx_planner.specs.Bitmaps.{sides_kept}
use Rattle.gfx_planner.specs.TileSteps.{goes_as_video}
use Rattle.gfx_planner.specs.Passes.{passes_as}
use Rattle.gfx_planner.specs.StepMessages.{made_as}
use Rattle.gfx_planner.specs.CanSend.{IsPlaced, CanBeSent}
use Rattle.gfx_planner.proofs.PassesMessages.{all_live, all_made}
use Rattle.gfx_planner.proofs.VideoMessages.{step_as_video, step_counted, video_there}
use Rattle.gfx_planner.proofs.video.video_paint_messages.Goals as goal

pub paint_as_video-requires-clause-there : goal.paint_as_video-requires-clause-there
paint_as_video-requires-clause-there c =
    let goes : goes_as_video (goes_by c.args.script.now.thin c.args.kind) ≡ true = rw c.in-Paint.is at c.requires.video in
    (video_there c.args.script.now c.args.passes.now.videos (get c.args.state.now.shown.surfaces c.in-Paint.id) (slice_get c.args.script.now.pictures c.in-Paint.picture) c.in-Paint.id c.in-Paint.at c.args.plan.now
    (subst CanBeSent (step_as_video c.args.script.now c.args.state.now c.args.passes.now c.args.plan.now c.args.kind c.in-Paint.kind c.in-Paint.glyph c.in-Paint.id c.in-Paint.picture c.in-Paint.at goes)
    (rw c.in-Paint.is at c.requires.possible))).0

pub paint_as_video-requires-clause-drawn : goal.paint_as_video-requires-clause-drawn
paint_as_video-requires-clause-drawn c =
    let goes : goes_as_video (goes_by c.args.script.now.thin c.args.kind) ≡ true = rw c.in-Paint.is at c.requires.video in
    (video_there c.args.script.now c.args.passes.now.videos (get c.args.state.now.shown.surfaces c.in-Paint.id) (slice_get c.args.script.now.pictures c.in-Paint.picture) c.in-Paint.id c.in-Paint.at c.args.plan.now
    (subst CanBeSent (step_as_video c.args.script.now c.args.state.now c.args.passes.now c.args.plan.now c.args.kind c.in-Paint.kind c.in-Paint.glyph c.in-Paint.id c.in-Paint.picture c.in-Paint.at goes)
    (rw c.in-Paint.is at c.requires.possible))).1

pub paint_as_video-requires-clause-placed : goal.paint_as_video-requires-clause-placed
unfolding IsPlaced
paint_as_video-requires-clause-placed c = rw c.in-Paint.is at c.requires.may.placed

pub returns-clause-made : goal.returns-clause-made
returns-clause-made c =
    let goes : goes_as_video (goes_by c.args.script.now.thin c.args.kind) ≡ true = rw c.in-Paint.is at c.requires.video in
    let is = ap (made_as c.args.script.now c.args.state.now c.args.passes.now c.args.plan.now c.args.kind) c.in-Paint.is
    ∙ step_as_video c.args.script.now c.args.state.now c.args.passes.now c.args.plan.now c.args.kind c.in-Paint.kind c.in-Paint.glyph c.in-Paint.id c.in-Paint.picture c.in-Paint.at goes in
    all_made c.paint_as_video.result (λ pdus. pdus.items) c.args.plan.now _ _ is c.paint_as_video.ensures.made

pub returns-clause-passes : goal.returns-clause-passes
returns-clause-passes c =
    let goes : goes_as_video (goes_by c.args.script.now.thin c.args.kind) ≡ true = rw c.in-Paint.is at c.requires.video in
    let is = ap (passes_as c.args.script.now (sides_kept c.args.plan.now c.args.state.now.cache.slots) c.args.state.now.shown.surfaces c.args.passes.now c.args.kind) c.in-Paint.is
    ∙ step_counted c.args.script.now (sides_kept c.args.plan.now c.args.state.now.cache.slots) c.args.state.now.shown.surfaces c.args.passes.now c.args.kind c.in-Paint.kind c.in-Paint.glyph c.in-Paint.id c.in-Paint.picture c.in-Paint.at goes in
    all_live c.paint_as_video.result _ _ _ is c.paint_as_video.ensures.passes
