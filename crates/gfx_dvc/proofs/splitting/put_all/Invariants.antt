use Rattle.std.proofs.Common.{◌-◌}
use Rattle.gfx_dvc.specs.declared.profile.TheConstants.{MOST_DATA}
use Rattle.gfx_dvc.proofs.CutLemmas.{Sent}
use Rattle.gfx_dvc.proofs.splitting.put_all.Given as goal

abbrev pub invariant-pieces : goal.invariant-pieces
invariant-pieces l = Sent MOST_DATA (l.count - l._index) l.fn.out l.out l.bytes l.rest l.count
