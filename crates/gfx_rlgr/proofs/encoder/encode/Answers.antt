use Rattle.std.proofs.lemmas.List.Sums.{list_all-from_AllPass}
use Rattle.gfx_rlgr.specs.Rlgr.{in_range}
use Rattle.gfx_rlgr.proofs.PairBound.{short-bytes}
use Rattle.gfx_rlgr.proofs.RoundTrip.{written-decodes}
use Rattle.gfx_rlgr.proofs.encoder.encode.Goals as goal

pub returns-in-Ok-clause-decoded : goal.returns-in-Ok-clause-decoded
returns-in-Ok-clause-decoded c =
    rw c.from_vec.ensures
    (written-decodes c.args.mode c.args.values.now c.in-Ok.bytes.items c.told-values (list_all-from_AllPass in_range c.args.values.now c.requires) c.in-Ok.ensures)

pub returns-in-Ok-clause-bound : goal.returns-in-Ok-clause-bound
returns-in-Ok-clause-bound c small = rw c.from_vec.ensures (short-bytes c.args.mode c.args.values.now c.in-Ok.bytes.items c.told-values small c.in-Ok.ensures)
