use Rattle.std.proofs.Common.{length, ap, subst, arith, Ok}
use Rattle.gfx_session.specs.Noting.{Listens}
use Rattle.gfx_session.proofs.Closing.{counts}
use Rattle.gfx_session.proofs.server_end.ServerEnd.take.Goals as goal

pub returns-clause-takes : goal.returns-clause-takes
returns-clause-takes c =
    counts c.args.self.now.closed c.args.self.now c.listen.new.self c.args.out.now c.listen.new.out c.listen.new.taken.items c.args.piece.now c.min.result
    (omega (arith, c.min.ensures, c.len.ensures, c.in_ok-listen.ensures.few, c.in_flight-most.ensures.count, ap length c.new-taken.ensures.items, c.listen.new.taken.ok))
    (subst (λ z. Listens c.args.self.now.closed (Ok tt) c.args.self.now c.listen.new.self c.args.out.now c.listen.new.out z c.listen.new.taken.items c.args.piece.now) c.new-taken.ensures.items c.in_ok-listen.ensures.listens)
