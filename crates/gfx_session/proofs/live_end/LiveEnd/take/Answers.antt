use Rattle.std.proofs.Common.{refl}
use Rattle.gfx_session.proofs.LiveLemmas.{listens_script, still_live}
use Rattle.gfx_session.proofs.live_end.LiveEnd.take.Goals as goal

pub returns-clause-is : goal.returns-clause-is
returns-clause-is c =
    still_live c.args.self.now (record c.args.self.now { end = c.listen.new.self }) c.requires c.listen.ensures.is
    (listens_script c.args.self.now.end.closed c.listen.result c.args.self.now.end c.listen.new.self c.args.out.now c.listen.new.out c.args.shown.now.items c.listen.new.taken.items c.args.piece.now c.listen.ensures.listens) refl
