use Rattle.std.proofs.Common.{◌-◌}
use Rattle.gfx_chooser.specs.Seen.{seen}
use Rattle.gfx_session.proofs.TurnLemmas.{HasDrained}
use Rattle.gfx_session.proofs.session.Session.drain.Given as goal

abbrev pub invariant-rounds : goal.invariant-rounds
invariant-rounds g l =
    HasDrained l.fn.self l.self (seen g.C.Chooser.reply g.C.Chooser.is_spent l.fn.choosers.items) (seen g.C.Chooser.reply g.C.Chooser.is_spent l.choosers.items) (l.most - l.counter)
