use Rattle.gfx_chooser.specs.Choosing.{Chooser}
use Rattle.gfx_chooser.specs.Seen.{seen}
use Rattle.std.proofs.Common.{List, false}
use Rattle.gfx_script.specs.declared.turn.Turn.TheVariants.{Server}
use Rattle.gfx_session.proofs.ChosenKinds.{is_on_by}
use Rattle.gfx_session.proofs.TurnLemmas.{served}
use Rattle.gfx_session.proofs.session.Session.serve.Goals as goal

pub returns-clause-does : goal.returns-clause-does
returns-clause-does g c =
    let before : List Chooser = seen g.C.Chooser.reply g.C.Chooser.is_spent c.args.choosers.now.items in
    let left : List Chooser = seen g.C.Chooser.reply g.C.Chooser.is_spent c.serve.new.choosers.items in
    served c.args.self.now (record c.args.self.now { server = c.serve.new.self; down = c.put.new.self }) before left c.new-out.result c.serve.new.out c.in_ok-served.served c.has_moved.result
    c.new-out.ensures c.in_ok-served.ensures.serves c.in_ok-put.ensures.ok c.has_moved.ensures

pub returns-clause-is : goal.returns-clause-is
returns-clause-is g c =
    let before : List Chooser = seen g.C.Chooser.reply g.C.Chooser.is_spent c.args.choosers.now.items in
    let left : List Chooser = seen g.C.Chooser.reply g.C.Chooser.is_spent c.serve.new.choosers.items in
    is_on_by c.args.self.now (record c.args.self.now { server = c.serve.new.self; down = c.put.new.self; spent = false }) before left c.has_moved.result Server c.requires.is c.requires.fresh (c.requires.is.server.0, c.serve.ensures.is c.requires.is.server.0 c.requires.is.server.1)
    (served c.args.self.now (record c.args.self.now { server = c.serve.new.self; down = c.put.new.self }) before left c.new-out.result c.serve.new.out c.in_ok-served.served c.has_moved.result
    c.new-out.ensures c.in_ok-served.ensures.serves c.in_ok-put.ensures.ok c.has_moved.ensures)

pub returns-in_err-served-clause-is : goal.returns-in_err-served-clause-is
returns-in_err-served-clause-is g c = record { server = (c.requires.is.server.0, c.serve.ensures.is c.requires.is.server.0 c.requires.is.server.1); under_way = λ fresh. absurd cc }

pub returns-in_err-put-clause-is : goal.returns-in_err-put-clause-is
returns-in_err-put-clause-is g c = record { server = (c.requires.is.server.0, c.serve.ensures.is c.requires.is.server.0 c.requires.is.server.1); under_way = λ fresh. absurd cc }
