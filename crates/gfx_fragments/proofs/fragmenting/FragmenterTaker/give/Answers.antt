use Rattle.std.proofs.Common.{refl, ◌++◌}
use Rattle.std.proofs.lemmas.Result.{err_from_is_err_and}
use Rattle.gfx_fragments.proofs.CuttingTurns.{fed_cutting, not_fed}
use Rattle.gfx_fragments.proofs.fragmenting.FragmenterTaker.give.Goals as goal

pub returns-in_err-feed : goal.returns-in_err-feed
returns-in_err-feed g c = λ bytes before held there wrote.
    let p = err_from_is_err_and c.from_residual.result c.from_residual.ensures.1 in
    rw (p.1, p.2) (not_fed _ (record c.args.self.now { splitter = c.feed.new.self }) bytes c.args.piece.now wrote)

pub returns : goal.returns
returns g c = λ bytes before held there wrote.
    c.cut_all.ensures (bytes ++ c.args.piece.now) before held
    (fed_cutting _ c.args.self.now (record c.args.self.now { splitter = c.feed.new.self }) bytes c.args.piece.now there wrote c.in_ok-feed.ensures.ok refl refl)
