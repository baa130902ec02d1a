use Rattle.std.proofs.Common.{◌+◌}
use Rattle.gfx_tile_state.specs.Sifting.{Listed}
use Rattle.gfx_tile_state.proofs.upgrading.sifting.sift_block.Given as goal

abbrev pub invariant-loop-ahead : goal.invariant-loop-ahead
invariant-loop-ahead l = Listed l.plane l.from (l.place + l.ahead) (l.count + l.ahead) l.noughts l.others
