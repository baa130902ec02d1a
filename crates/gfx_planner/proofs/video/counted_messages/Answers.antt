use Rattle.std.specs.List.{slice_get}
use Rattle.gfx_planner.proofs.VideoMessages.{videos_counted}
use Rattle.gfx_planner.proofs.video.counted_messages.Goals as goal

pub returns-clause-counted : goal.returns-clause-counted
returns-clause-counted c =
    videos_counted c.args.passes.now c.count_videos.new.self (slice_get c.args.script.now.pictures c.args.picture) _ _ c.requires.drawn c.videos-next.ensures c.in_ok-all.ensures.number c.count_videos.ensures
