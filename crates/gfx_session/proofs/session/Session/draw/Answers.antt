use Rattle.std.proofs.Common.{false, not, ap}
use Rattle.gfx_script.specs.declared.turn.Turn.TheVariants.{Client}
use Rattle.gfx_session.proofs.ChosenKinds.{is_on}
use Rattle.gfx_session.proofs.TurnLemmas.{drew, will_take, will_draw}
use Rattle.gfx_session.proofs.session.Session.draw.Goals as goal

pub take_bytes-requires : goal.take_bytes-requires
take_bytes-requires c = will_take c.args.self.now c.requires.is c.requires.fresh

pub draw_all-requires-clause-good : goal.draw_all-requires-clause-good
draw_all-requires-clause-good c = will_draw c.args.self.now c.take_bytes.new.client c.args.most c.front-piece.result.now c.requires.is c.requires.fresh c.front-piece.ensures c.in_ok-take_bytes.ensures

pub returns-clause-does : goal.returns-clause-does
returns-clause-does c =
    drew c.args.self.now (record c.args.self.now { client = c.draw_all.new.client; down = c.pass.new.self; up = c.draw_all.new.up; drawn = c.draw_all.new.drawn }) c.take_bytes.new.client c.args.most c.front-piece.result.now (not c.is_empty-moved.result)
    c.digests-digests.result c.digests-digests.ensures c.front-piece.ensures c.in_ok-take_bytes.ensures c.draw_all.ensures.offers c.in_ok-draw_all.ensures.run c.in_ok-draw_all.ensures.drained c.in_ok-draw_all.ensures.draws c.pass.ensures (ap not c.is_empty-moved.ensures)

pub returns-clause-is : goal.returns-clause-is
returns-clause-is c =
    is_on c.args.self.now (record c.args.self.now { client = c.draw_all.new.client; down = c.pass.new.self; up = c.draw_all.new.up; drawn = c.draw_all.new.drawn; spent = false }) (not c.is_empty-moved.result) (Client c.args.most) c.requires.is c.requires.fresh c.requires.is.server
    (drew c.args.self.now (record c.args.self.now { client = c.draw_all.new.client; down = c.pass.new.self; up = c.draw_all.new.up; drawn = c.draw_all.new.drawn }) c.take_bytes.new.client c.args.most c.front-piece.result.now (not c.is_empty-moved.result)
    c.digests-digests.result c.digests-digests.ensures c.front-piece.ensures c.in_ok-take_bytes.ensures c.draw_all.ensures.offers c.in_ok-draw_all.ensures.run c.in_ok-draw_all.ensures.drained c.in_ok-draw_all.ensures.draws c.pass.ensures (ap not c.is_empty-moved.ensures))
