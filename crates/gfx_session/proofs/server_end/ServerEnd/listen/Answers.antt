use Rattle.std.proofs.Common.{Err, subst}
use Rattle.gfx_session.specs.Kept.{IsServerEndFrom}
use Rattle.gfx_session.specs.Noting.{Listens}
use Rattle.gfx_session.specs.declared.server_end.ServerEnd.{ServerEnd}
use Rattle.gfx_session.proofs.Closing.{keeps, closed_by, closed_is, closed_too}
use Rattle.gfx_session.proofs.server_end.ServerEnd.listen.Goals as goal

pub returns-in-Ok-clause-is : goal.returns-in-Ok-clause-is
returns-in-Ok-clause-is c = λ held. keeps c.args.self.now c.hear.new.self c.args.taken.now.items c.hear.new.taken.items c.hear.ensures.plan

pub returns-in-Err-clause-is : goal.returns-in-Err-clause-is
returns-in-Err-clause-is c = λ held i. subst (IsServerEndFrom held) (closed_is c.in-Err.fault c.hear.new.self _ c.is_want_of_memory.ensures) (closed_too c.hear.new.self c.in-Err.fault (keeps c.args.self.now c.hear.new.self c.args.taken.now.items c.hear.new.taken.items c.hear.ensures.plan i))

pub returns-in-Err-clause-listens : goal.returns-in-Err-clause-listens
returns-in-Err-clause-listens c =
    subst (λ (end : ServerEnd). Listens c.args.self.now.closed (Err c.in-Err.fault) c.args.self.now end c.args.out.now c.hear.new.out c.args.taken.now.items c.hear.new.taken.items c.args.piece.now)
    (closed_is c.in-Err.fault c.hear.new.self _ c.is_want_of_memory.ensures)
    (closed_by c.args.self.now.closed c.in-Err.fault c.args.self.now c.hear.new.self c.args.out.now c.hear.new.out c.args.taken.now.items c.hear.new.taken.items c.args.piece.now c.if-self.false
    c.hear.ensures.plan c.in-Err.ensures.hears)
