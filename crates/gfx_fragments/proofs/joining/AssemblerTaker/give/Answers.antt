use Rattle.std.proofs.Common.{refl, ◌++◌}
use Rattle.std.proofs.lemmas.Result.{err_from_is_err_and}
use Rattle.gfx_fragments.proofs.JoiningTurns.{gained_joining, not_gained}
use Rattle.gfx_fragments.proofs.joining.AssemblerTaker.give.Goals as goal

pub returns-in_err-gain : goal.returns-in_err-gain
returns-in_err-gain g c = λ bytes before held there wrote.
    let p = err_from_is_err_and c.from_residual.result c.from_residual.ensures.1 in
    rw (p.1, p.2) (not_gained _ (record c.args.self.now { pending = c.gain.new.self }) bytes c.args.piece.now wrote)

pub returns : goal.returns
returns g c = λ bytes before held there wrote.
    c.join_all.ensures (bytes ++ c.args.piece.now) before held
    (gained_joining _ c.args.self.now (record c.args.self.now { pending = c.gain.new.self }) bytes c.args.piece.now there wrote c.in_ok-gain.ensures.ok refl refl refl)
