use Rattle.gfx_planner.proofs.MessageSending.{Sending}
use Rattle.gfx_planner.proofs.sender.Sender.send.Given as goal

abbrev pub invariant-pdus : goal.invariant-pdus
invariant-pdus l = Sending l.fn.self l.fn.out l.pdus l.pdu-index l.self l.out
