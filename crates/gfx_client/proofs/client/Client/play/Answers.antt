use Rattle.std.proofs.lemmas.Result.{err_from_is_err_and}
use Rattle.gfx_client.specs.Client.{closed_by}
use Rattle.gfx_client.proofs.Noting.{played_damage}
use Rattle.gfx_client.proofs.Playing.{open_taken, played, not_taken}
use Rattle.gfx_client.proofs.client.Client.play.Goals as goal

pub play_all-requires : goal.play_all-requires
play_all-requires c = (open_taken (closed_by c.args.self.now) c.args.self.now c.take.new.self c.args.piece.now c.in_ok-take.ensures.takes).1

pub returns-in_err-take-clause-plays : goal.returns-in_err-take-clause-plays
returns-in_err-take-clause-plays c =
    let p = err_from_is_err_and c.from_residual.result c.from_residual.ensures.1 in
    rw (p.1, p.2) (not_taken (closed_by c.args.self.now) c.in_err-take.field-0.0 c.args.self.now c.take.new.self c.args.piece.now c.in_err-take.ensures.takes c.in_err-take.ensures.kept)

pub returns-clause-plays : goal.returns-clause-plays
returns-clause-plays c = played c.args.self.now c.take.new.self c.play_all.new.self c.args.piece.now c.play_all.result c.in_ok-take.ensures.takes c.in_ok-take.ensures.stands c.play_all.ensures.plays

pub returns-clause-damage : goal.returns-clause-damage
returns-clause-damage c = played_damage (closed_by c.args.self.now) c.args.self.now c.take.new.self c.play_all.new.self c.args.piece.now c.play_all.result c.in_ok-take.ensures.takes c.in_ok-take.ensures.damage c.play_all.ensures.damage
