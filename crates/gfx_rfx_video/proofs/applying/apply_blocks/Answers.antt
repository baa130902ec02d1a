use Rattle.std.proofs.Common.{[], arith}
use Rattle.std.proofs.lemmas.Result.{err_from_is_err_and}
use Rattle.gfx_rfx_video.specs.Video.{after_block, scene}
use Rattle.gfx_rfx_video.proofs.Turns.{blocks-ended, blocks-failed, so-ended, so-more}
use Rattle.gfx_rfx_video.proofs.Undoing.{still}
use Rattle.gfx_rfx_video.proofs.applying.apply_blocks.Goals as goal

pub returns-in_err-areas-clause-gives : goal.returns-in_err-areas-clause-gives
returns-in_err-areas-clause-gives c =
    let p = err_from_is_err_and c.from_residual.result c.from_residual.ensures.1 in
    rw (p.1, p.2) (blocks-failed c.args.rect c.args.blocks.now c.args.surface.now c.apply_block.new.surface (scene c.all.areas.now c.all.surface) c.all.block-index _ c.in_err-areas.field-0.0
    (λ areas. scene areas c.apply_block.new.surface) (omega (arith, c.all-test.true)) (rw c.block-item.is at c.in_err-areas.ensures.gives) c.all.invariant.so)

pub returns-in_err-areas-clause-undo : goal.returns-in_err-areas-clause-undo
returns-in_err-areas-clause-undo c =
    still c.args.log.now.cells.items c.all.log.cells.items c.apply_block.new.log.cells.items c.args.surface.now c.all.surface c.apply_block.new.surface c.all.invariant.undo c.apply_block.ensures.undo

pub all-preserved : goal.all-preserved
all-preserved c = record {
  so = so-more (after_block c.args.rect) c.args.blocks.now (scene [] c.args.surface.now) (scene c.all.areas.now c.all.surface) _ c.all.block-index _
      (omega (arith, c.all-test.true)) (rw c.block-item.is at c.in_ok-areas.ensures.gives) c.all.invariant.so;
  undo = still c.args.log.now.cells.items c.all.log.cells.items c.apply_block.new.log.cells.items c.args.surface.now c.all.surface c.apply_block.new.surface c.all.invariant.undo c.apply_block.ensures.undo;
  inside = c.in_ok-areas.ensures.inside;
  drawing = c.apply_block.ensures.canvas;
}

pub returns-clause-gives : goal.returns-clause-gives
returns-clause-gives c =
    blocks-ended c.args.rect c.args.blocks.now c.args.surface.now c.all.areas.now c.all.surface
    (so-ended (after_block c.args.rect) c.args.blocks.now (scene [] c.args.surface.now) (scene c.all.areas.now c.all.surface) c.all.block-index (omega (arith, c.all-test.false)) c.all.invariant.so)
