use Rattle.std.proofs.Common.{arith}
use Rattle.gfx_tile_state.proofs.PlaceLists.{none-listed}
use Rattle.gfx_tile_state.proofs.upgrading.sifting.sift.Goals as goal

pub fronts-init : goal.fronts-init
fronts-init c = record {
  begun = omega arith;
  order = c.requires.order;
  listed = none-listed c.args.plane.now c.args.from c.args.noughts.now c.args.others.now c.told-noughts c.told-others;
}
