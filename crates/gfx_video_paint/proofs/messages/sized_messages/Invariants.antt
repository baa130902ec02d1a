use Rattle.std.proofs.Common.{◌-◌, ◌≤◌, drop, length}
use Rattle.gfx_prog_live.specs.Inside.{OfPicture}
use Rattle.gfx_prog_live.proofs.Groups.{Writing}
use Rattle.gfx_video_paint.specs.Video.{video_payload}
use Rattle.gfx_video_paint.proofs.messages.sized_messages.Given as goal

-- the messages of the squares so far are written
abbrev pub invariant-groups : goal.invariant-groups
invariant-groups l =
    (l.place ≤ length l.squares) × OfPicture l.script l.picture (λ drawing. Writing (video_payload l.script.setting l.mode drawing) l.squares l.initial.next (drop l.place l.squares) l.next l.all.items)

abbrev pub decreases-groups : goal.decreases-groups
decreases-groups l = length l.squares - l.place
