use Rattle.gfx_chooser.specs.Seen.{seen}
use Rattle.gfx_session.proofs.TurnLemmas.{turns_told}
use Rattle.gfx_session.proofs.session.Session.turn.Goals as goal

pub returns-clause-turns : goal.returns-clause-turns
returns-clause-turns g c =
    turns_told c.args.self.now c.take_turn.new.self (seen g.C.Chooser.reply g.C.Chooser.is_spent c.args.choosers.now.items) (seen g.C.Chooser.reply g.C.Chooser.is_spent c.take_turn.new.choosers.items)
    c.args.turn c.has_ended-ended.result c.in_ok-moved.moved c.told.result c.if-self.false c.has_ended-ended.ensures c.in_ok-moved.ensures.does c.told.ensures
