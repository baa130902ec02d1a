use Rattle.std.proofs.Common.{arith}
use Rattle.std.proofs.lemmas.Result.{err_from_is_err_and}
use Rattle.gfx_prog_decode.specs.Progressive.{after_tile}
use Rattle.gfx_prog_decode.specs.Scene.{scene}
use Rattle.gfx_prog_decode.specs.Undo.{kept}
use Rattle.gfx_prog_decode.proofs.Steps.{so_ended, so_failed, so_more, still}
use Rattle.gfx_prog_decode.proofs.applying.apply_tiles.Goals as goal

pub returns-in_err-apply_tile-clause-gives : goal.returns-in_err-apply_tile-clause-gives
returns-in_err-apply_tile-clause-gives c =
    let p = err_from_is_err_and c.from_residual.result c.from_residual.ensures.1 in
    rw (p.1, p.2) (so_failed (after_tile c.args.place c.args.region.now) c.in_err-apply_tile.field-0.0 c.args.tiles.now (scene c.args.records.now c.args.surface.now)
    (scene c.tiles.records c.tiles.surface) (scene c.tiles.records c.tiles.surface) (scene c.tiles.records c.tiles.surface) c.tiles.tile-index _ (omega (arith, c.tiles-test.true)) (rw c.tile-item.is at c.in_err-apply_tile.ensures.gives) c.tiles.invariant.so)

pub returns-in_err-apply_tile-clause-undo : goal.returns-in_err-apply_tile-clause-undo
returns-in_err-apply_tile-clause-undo c =
    still (kept c.args.bench.now.log) (kept c.tiles.bench.log) (kept c.apply_tile.new.bench.log) (scene c.args.records.now c.args.surface.now) (scene c.tiles.records c.tiles.surface)
    (scene c.apply_tile.new.records c.apply_tile.new.surface) c.tiles.invariant.undo c.apply_tile.ensures.undo

pub tiles-preserved : goal.tiles-preserved
tiles-preserved c = record {
  so = so_more (after_tile c.args.place c.args.region.now) c.args.tiles.now (scene c.args.records.now c.args.surface.now) (scene c.tiles.records c.tiles.surface)
      (scene c.apply_tile.new.records c.apply_tile.new.surface) c.tiles.tile-index _ (omega (arith, c.tiles-test.true)) (rw c.tile-item.is at c.in_ok-apply_tile.ensures.gives) c.tiles.invariant.so;
  undo = still (kept c.args.bench.now.log) (kept c.tiles.bench.log) (kept c.apply_tile.new.bench.log) (scene c.args.records.now c.args.surface.now) (scene c.tiles.records c.tiles.surface)
      (scene c.apply_tile.new.records c.apply_tile.new.surface) c.tiles.invariant.undo c.apply_tile.ensures.undo;
}

pub returns-clause-gives : goal.returns-clause-gives
returns-clause-gives c =
    so_ended (after_tile c.args.place c.args.region.now) c.args.tiles.now (scene c.args.records.now c.args.surface.now) (scene c.tiles.records c.tiles.surface) c.tiles.tile-index
    (omega (arith, c.tiles-test.false)) c.tiles.invariant.so
