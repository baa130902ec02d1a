use Rattle.std.proofs.Common.{[], IsTrue}
use Rattle.gfx_base.specs.Geometry.{lies_in}
use Rattle.gfx_rfx_video.specs.Inside.{IsCanvas}
use Rattle.gfx_rfx_video.specs.Undo.{StaysUndoable}
use Rattle.gfx_rfx_video.specs.Video.{after_block, scene}
use Rattle.gfx_rfx_video.proofs.Turns.{SoFar}
use Rattle.gfx_rfx_video.proofs.applying.apply_blocks.Given as goal

-- what the blocks so far made, and that it can be undone
abbrev pub invariant-all : goal.invariant-all
invariant-all l = record {
  so : SoFar (after_block l.rect) l.blocks (scene [] l.initial.surface) l.block-index (scene l.areas l.surface);
  undo : StaysUndoable l.initial.log.cells.items l.initial.surface l.log.cells.items l.surface;
  inside : IsTrue (lies_in l.surface.width l.surface.height l.rect);
  drawing : IsCanvas l.canvas;
}
