use Rattle.std.proofs.Common.{length}
use Rattle.gfx_prog_encode.specs.Messages.{paint_data}
use Rattle.gfx_prog_live.proofs.Groups.{Writing}
use Rattle.gfx_prog_live.proofs.messages.paint_messages.Given as goal

-- the messages so far are written
abbrev pub invariant-groups : goal.invariant-groups
invariant-groups l = Writing (paint_data l.setting) l.sends l.initial.next l.rest l.next l.all.items

abbrev pub decreases-groups : goal.decreases-groups
decreases-groups l = length l.rest
