use Rattle.std.proofs.Common.{◌≡◌, ◌∙◌, Some, ap, option_map, sym, rules}
use Rattle.std.specs.FinMap.{get}
use Rattle.std.specs.List.{slice_get}
use Rattle.gfx_base.specs.Geometry.{moved, sized}
use Rattle.gfx_planner.specs.Passes.{counted_in}
use Rattle.gfx_planner.proofs.PassesMessages.{on_ok}
use Rattle.gfx_planner.proofs.Payloads.{sides}
use Rattle.gfx_planner.proofs.VideoMessages.{ended_videos, placed_fits, placed_some, video_made}
use Rattle.gfx_planner.proofs.video.paint_as_video.Goals as goal

pub end_painted-requires : goal.end_painted-requires
end_painted-requires c = placed_fits (slice_get c.args.script.now.pictures c.args.picture) c.args.at c.requires.placed

pub counted_messages-requires-clause-some : goal.counted_messages-requires-clause-some
counted_messages-requires-clause-some c = placed_some (slice_get c.args.script.now.pictures c.args.picture) c.args.at c.requires.placed

pub returns-clause-made : goal.returns-clause-made
returns-clause-made c =
    let there : get c.args.state.now.shown.surfaces c.args.id ≡ Some c.in-Some.surface.now = search rules in
    let drawn : option_map sides (slice_get c.args.script.now.pictures c.args.picture) ≡ Some (c.in-Some-picture_size.width, c.in-Some-picture_size.height) = sym c.picture_size.ensures ∙ c.in-Some-picture_size.is in
    let rect : c.moved_to-rect.result ≡ moved (sized c.in-Some-picture_size.width c.in-Some-picture_size.height) c.args.at = search rules in
    let kept = ap (λ p. p.videos) c.end_painted.ensures ∙ ended_videos c.args.passes.now _ in
    video_made c.as_messages.result (λ pdus. pdus.items) c.args.script.now c.args.passes.now.videos c.end_painted.new.passes.videos (get c.args.state.now.shown.surfaces c.args.id) (slice_get c.args.script.now.pictures c.args.picture)
    c.in-Some.surface.now c.in-Some-picture_size.width c.in-Some-picture_size.height c.args.id c.args.at c.moved_to-rect.result c.format.result c.in_ok-all.all.items there drawn c.format.ensures rect kept
    c.in_ok-all.ensures.data c.as_messages.ensures

pub returns-clause-passes : goal.returns-clause-passes
returns-clause-passes c =
    on_ok c.as_messages.result _ (c.in_ok-all.ensures.counted ∙ ap (counted_in (slice_get c.args.script.now.pictures c.args.picture)) c.end_painted.ensures)
