use Rattle.std.proofs.Common.{Err, Ok}
use Rattle.gfx_session.proofs.LiveLemmas.{listens_script}
use Rattle.gfx_session.proofs.noting.hear_bytes.Goals as goal

pub returns-in-Ok-clause-script : goal.returns-in-Ok-clause-script
returns-in-Ok-clause-script c =
    listens_script c.args.server.now.closed (Ok tt) c.args.server.now c.listen.new.self c.args.out.now c.listen.new.out c.args.taken.now.items c.listen.new.taken.items c.args.piece.now c.in-Ok.ensures.listens

pub returns-in-Err-clause-script : goal.returns-in-Err-clause-script
returns-in-Err-clause-script c =
    listens_script c.args.server.now.closed (Err c.in-Err.fault) c.args.server.now c.listen.new.self c.args.out.now c.listen.new.out c.args.taken.now.items c.listen.new.taken.items c.args.piece.now c.in-Err.ensures.listens
