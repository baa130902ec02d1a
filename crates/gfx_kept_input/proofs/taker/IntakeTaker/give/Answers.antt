use Rattle.std.proofs.Common.{◌++◌, refl}
use Rattle.gfx_kept_input.proofs.TurnLemmas.{gained, gave}
use Rattle.gfx_kept_input.proofs.taker.IntakeTaker.give.Goals as goal

pub returns : goal.returns
returns g c = λ bytes before held stands wrote.
    gave c.read_files.result c.read_files.new.taker (bytes ++ c.args.piece.now) _ wrote
    (c.read_files.ensures (bytes ++ c.args.piece.now) (gained c.args.self.now (record c.args.self.now { bytes = c.append.new.self }) bytes c.args.piece.now stands refl c.in_ok-append.ensures.ok refl refl))
