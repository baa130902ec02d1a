use Rattle.gfx_chooser.specs.Seen.{seen}
use Rattle.gfx_script.specs.declared.turn.Turn.TheVariants.{Client, Answer}
use Rattle.gfx_session.proofs.ChosenKinds.{by_none}
use Rattle.gfx_session.proofs.session.Session.take_turn.Goals as goal

pub returns-in-Client-clause-does : goal.returns-in-Client-clause-does
returns-in-Client-clause-does g c =
    by_none c.draw.result c.args.self.now c.draw.new.self (seen g.C.Chooser.reply g.C.Chooser.is_spent c.args.choosers.now.items) c.args.turn (Client c.in-Client.most) c.in-Client.is c.draw.ensures.does

pub returns-in-Answer-clause-does : goal.returns-in-Answer-clause-does
returns-in-Answer-clause-does g c =
    by_none c.hear.result c.args.self.now c.hear.new.self (seen g.C.Chooser.reply g.C.Chooser.is_spent c.args.choosers.now.items) c.args.turn (Answer c.in-Answer.most) c.in-Answer.is c.hear.ensures.does
