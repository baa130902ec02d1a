use Rattle.std.proofs.Common.{◌∙◌, ap}
use Rattle.std.specs.Prelude.{nat_lt}
use Rattle.gfx_prog_live.proofs.Taking.{found_by_test}
use Rattle.gfx_prog_live.proofs.live.LiveTiles.may_be_raised.Goals as goal

pub returns-in-Some : goal.returns-in-Some
returns-in-Some c = ap (λ n. nat_lt n c.args.listed) c.from.ensures ∙ found_by_test c.args.listed _ c.in-Some.send.now c.in-Some.ensures c.requires.levels
