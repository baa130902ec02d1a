use Rattle.std.proofs.Common.{refl}
use Rattle.std.proofs.lemmas.Result.{err_from_is_err_and}
use Rattle.gfx_chooser.specs.Seen.{seen}
use Rattle.gfx_session.proofs.LiveForgetting.{serves_live, serves_live_not}
use Rattle.gfx_session.proofs.LiveLemmas.{serves_script, still_live}
use Rattle.gfx_session.proofs.live_end.LiveEnd.serve.Goals as goal

pub returns-in_err-turned-clause-serves : goal.returns-in_err-turned-clause-serves
returns-in_err-turned-clause-serves g c =
    let p = err_from_is_err_and c.from_residual.result c.from_residual.ensures.1 in
    rw p.1
    (serves_live_not p.0 c.args.self.now c.serve.new.self (seen g.C.Chooser.reply g.C.Chooser.is_spent c.args.choosers.now.items) (seen g.C.Chooser.reply g.C.Chooser.is_spent c.serve.new.choosers.items)
    c.args.out.now c.serve.new.out c.in_err-turned.ensures.serves)

pub returns-in_err-turned-clause-is : goal.returns-in_err-turned-clause-is
returns-in_err-turned-clause-is g c =
    still_live c.args.self.now (record c.args.self.now { end = c.serve.new.self }) c.requires c.serve.ensures.is
    (serves_script c.serve.result c.args.self.now.end c.serve.new.self _ _ c.args.out.now c.serve.new.out c.serve.ensures.serves) refl

pub forget-requires-clause-live : goal.forget-requires-clause-live
forget-requires-clause-live g c =
    still_live c.args.self.now (record c.args.self.now { end = c.serve.new.self }) c.requires c.serve.ensures.is
    (serves_script c.serve.result c.args.self.now.end c.serve.new.self _ _ c.args.out.now c.serve.new.out c.serve.ensures.serves) refl

pub returns-clause-serves : goal.returns-clause-serves
returns-clause-serves g c =
    let live =
    still_live c.args.self.now (record c.args.self.now { end = c.serve.new.self }) c.requires c.serve.ensures.is
    (serves_script c.serve.result c.args.self.now.end c.serve.new.self _ _ c.args.out.now c.serve.new.out c.serve.ensures.serves) refl in
    serves_live c.in_ok-turned.turned c.args.self.now c.serve.new.self (seen g.C.Chooser.reply g.C.Chooser.is_spent c.args.choosers.now.items)
    (seen g.C.Chooser.reply g.C.Chooser.is_spent c.serve.new.choosers.items) c.args.out.now c.serve.new.out live c.in_ok-turned.ensures.serves
    c.due-waited.result c.forget.new.self.end c.forget.new.self.draft c.forget.ensures.forgets
