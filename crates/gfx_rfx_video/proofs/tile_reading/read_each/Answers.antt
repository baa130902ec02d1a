use Rattle.std.proofs.Common.{arith}
use Rattle.std.proofs.lemmas.Result.{err_from_is_err_and}
use Rattle.gfx_layout.proofs.EachLoops.{each-stops}
use Rattle.gfx_rfx_video.specs.BlockReading.{due_tile}
use Rattle.gfx_rfx_video.proofs.tile_reading.read_each.Goals as goal

pub returns-in_err-tile : goal.returns-in_err-tile
returns-in_err-tile c =
    let p = err_from_is_err_and c.from_residual.result c.from_residual.ensures.1 in
    rw (p.1, p.2) (each-stops due_tile c.tiles.tiles c.args.count c.tiles.counter c.tiles.fields c.in_err-tile.field-0.0 _ (omega arith) c.in_err-tile.ensures c.tiles.invariant)
