use Rattle.std.proofs.Common.{arith}
use Rattle.std.proofs.lemmas.Result.{err_from_is_err_and}
use Rattle.gfx_rfx_video.specs.Video.{after_tile}
use Rattle.gfx_rfx_video.proofs.Turns.{so-ended, so-failed, so-more}
use Rattle.gfx_rfx_video.proofs.Undoing.{still}
use Rattle.gfx_rfx_video.proofs.applying.apply_tiles.Goals as goal

pub returns-in_err-apply_tile-clause-gives : goal.returns-in_err-apply_tile-clause-gives
returns-in_err-apply_tile-clause-gives c =
    let p = err_from_is_err_and c.from_residual.result c.from_residual.ensures.1 in
    rw (p.1, p.2) (so-failed (after_tile c.args.rect c.args.mode c.args.quants.now c.args.areas.now) c.in_err-apply_tile.field-0.0 c.args.tiles.now c.args.surface.now
    c.tiles.surface c.tiles.surface c.tiles.surface c.tiles.tile-index _ (omega (arith, c.tiles-test.true)) (rw c.tile-item.is at c.in_err-apply_tile.ensures.gives) c.tiles.invariant.so)

pub returns-in_err-apply_tile-clause-undo : goal.returns-in_err-apply_tile-clause-undo
returns-in_err-apply_tile-clause-undo c =
    still c.args.log.now.cells.items c.tiles.log.cells.items c.apply_tile.new.log.cells.items c.args.surface.now c.tiles.surface c.apply_tile.new.surface c.tiles.invariant.undo c.apply_tile.ensures.undo

pub tiles-preserved : goal.tiles-preserved
tiles-preserved c = record {
  so = so-more (after_tile c.args.rect c.args.mode c.args.quants.now c.args.areas.now) c.args.tiles.now c.args.surface.now c.tiles.surface c.apply_tile.new.surface c.tiles.tile-index _
      (omega (arith, c.tiles-test.true)) (rw c.tile-item.is at c.in_ok-apply_tile.ensures.gives) c.tiles.invariant.so;
  undo = still c.args.log.now.cells.items c.tiles.log.cells.items c.apply_tile.new.log.cells.items c.args.surface.now c.tiles.surface c.apply_tile.new.surface c.tiles.invariant.undo c.apply_tile.ensures.undo;
  inside = c.in_ok-apply_tile.ensures.inside;
  drawing = c.apply_tile.ensures.canvas;
}

pub returns-clause-gives : goal.returns-clause-gives
returns-clause-gives c =
    so-ended (after_tile c.args.rect c.args.mode c.args.quants.now c.args.areas.now) c.args.tiles.now c.args.surface.now c.tiles.surface c.tiles.tile-index (omega (arith, c.tiles-test.false)) c.tiles.invariant.so
