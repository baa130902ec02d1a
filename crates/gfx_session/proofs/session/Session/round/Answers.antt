use Rattle.gfx_chooser.specs.Seen.{seen}
use Rattle.gfx_session.proofs.TurnLemmas.{round_on}
use Rattle.gfx_session.proofs.session.Session.round.Goals as goal

pub draw-requires-clause-fresh : goal.draw-requires-clause-fresh
draw-requires-clause-fresh g c = c.in_ok-serve.ensures.does.1.0

pub hear-requires-clause-fresh : goal.hear-requires-clause-fresh
hear-requires-clause-fresh g c = c.in_ok-draw.ensures.does.0.0

pub returns-clause-goes : goal.returns-clause-goes
returns-clause-goes g c =
    round_on c.args.self.now c.serve.new.self c.draw.new.self c.hear.new.self (seen g.C.Chooser.reply g.C.Chooser.is_spent c.args.choosers.now.items) (seen g.C.Chooser.reply g.C.Chooser.is_spent c.serve.new.choosers.items)
    c.in_ok-serve.field-0 c.in_ok-draw.field-0 c.in_ok-hear.field-0 c.len-coming.result c.len-coming-2.result
    c.in_ok-serve.ensures.does c.len-coming.ensures c.in_ok-draw.ensures.does c.len-coming-2.ensures c.in_ok-hear.ensures.does
