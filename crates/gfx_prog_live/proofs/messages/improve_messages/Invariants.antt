use Rattle.std.proofs.Common.{length}
use Rattle.gfx_prog_encode.specs.Inside.{AreRaised}
use Rattle.gfx_prog_encode.specs.Messages.{improve_data}
use Rattle.gfx_prog_live.proofs.Groups.{Writing}
use Rattle.gfx_prog_live.proofs.messages.improve_messages.Given as goal

-- the messages so far are written, and what is left was raised
abbrev pub invariant-groups : goal.invariant-groups
invariant-groups l = Writing (improve_data l.setting) l.sends l.initial.next l.rest l.next l.all.items × AreRaised l.rest

abbrev pub decreases-groups : goal.decreases-groups
decreases-groups l = length l.rest
