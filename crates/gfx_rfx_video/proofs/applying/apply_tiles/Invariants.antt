use Rattle.std.proofs.Common.{IsTrue}
use Rattle.gfx_base.specs.Geometry.{lies_in}
use Rattle.gfx_rfx_video.specs.Inside.{IsCanvas}
use Rattle.gfx_rfx_video.specs.Undo.{StaysUndoable}
use Rattle.gfx_rfx_video.specs.Video.{after_tile}
use Rattle.gfx_rfx_video.proofs.Turns.{SoFar}
use Rattle.gfx_rfx_video.proofs.applying.apply_tiles.Given as goal

-- what the tiles so far made, and that it can be undone
abbrev pub invariant-tiles : goal.invariant-tiles
invariant-tiles l = record {
  so : SoFar (after_tile l.rect l.mode l.quants l.areas) l.tiles l.initial.surface l.tile-index l.surface;
  undo : StaysUndoable l.initial.log.cells.items l.initial.surface l.log.cells.items l.surface;
  inside : IsTrue (lies_in l.surface.width l.surface.height l.rect);
  drawing : IsCanvas l.canvas;
}
