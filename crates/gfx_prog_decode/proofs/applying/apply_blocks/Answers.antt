use Rattle.std.proofs.Common.{arith}
use Rattle.std.proofs.lemmas.Result.{err_from_is_err_and}
use Rattle.gfx_prog_decode.specs.Progressive.{after_block}
use Rattle.gfx_prog_decode.specs.Scene.{scene}
use Rattle.gfx_prog_decode.specs.Undo.{kept}
use Rattle.gfx_prog_decode.proofs.Steps.{so_ended, so_failed, so_more, still}
use Rattle.gfx_prog_decode.proofs.applying.apply_blocks.Goals as goal

pub returns-in_err-apply_block-clause-gives : goal.returns-in_err-apply_block-clause-gives
returns-in_err-apply_block-clause-gives c =
    let p = err_from_is_err_and c.from_residual.result c.from_residual.ensures.1 in
    rw (p.1, p.2) (so_failed (after_block c.args.place) c.in_err-apply_block.field-0.0 c.args.blocks.now (scene c.args.records.now c.args.surface.now)
    (scene c.all.records c.all.surface) (scene c.all.records c.all.surface) (scene c.all.records c.all.surface) c.all.block-index _ (omega (arith, c.all-test.true)) (rw c.block-item.is at c.in_err-apply_block.ensures.gives) c.all.invariant.so)

pub returns-in_err-apply_block-clause-undo : goal.returns-in_err-apply_block-clause-undo
returns-in_err-apply_block-clause-undo c =
    still (kept c.args.bench.now.log) (kept c.all.bench.log) (kept c.apply_block.new.bench.log) (scene c.args.records.now c.args.surface.now) (scene c.all.records c.all.surface)
    (scene c.apply_block.new.records c.apply_block.new.surface) c.all.invariant.undo c.apply_block.ensures.undo

pub all-preserved : goal.all-preserved
all-preserved c = record {
  so = so_more (after_block c.args.place) c.args.blocks.now (scene c.args.records.now c.args.surface.now) (scene c.all.records c.all.surface)
      (scene c.apply_block.new.records c.apply_block.new.surface) c.all.block-index _ (omega (arith, c.all-test.true)) (rw c.block-item.is at c.in_ok-apply_block.ensures.gives) c.all.invariant.so;
  undo = still (kept c.args.bench.now.log) (kept c.all.bench.log) (kept c.apply_block.new.bench.log) (scene c.args.records.now c.args.surface.now) (scene c.all.records c.all.surface)
      (scene c.apply_block.new.records c.apply_block.new.surface) c.all.invariant.undo c.apply_block.ensures.undo;
}

pub returns-clause-gives : goal.returns-clause-gives
returns-clause-gives c =
    so_ended (after_block c.args.place) c.args.blocks.now (scene c.args.records.now c.args.surface.now) (scene c.all.records c.all.surface) c.all.block-index
    (omega (arith, c.all-test.false)) c.all.invariant.so
