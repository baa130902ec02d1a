use Rattle.gfx_prog_decode.specs.Progressive.{after_tile}
use Rattle.gfx_prog_decode.specs.Scene.{scene}
use Rattle.gfx_prog_decode.specs.Undo.{StaysUndoable, kept}
use Rattle.gfx_prog_decode.proofs.Steps.{SoFar}
use Rattle.gfx_prog_decode.proofs.applying.apply_tiles.Given as goal

-- what the tiles so far made, and that it can be undone
abbrev pub invariant-tiles : goal.invariant-tiles
invariant-tiles l = record {
  so : SoFar (after_tile l.place l.region) l.tiles (scene l.initial.records l.initial.surface) l.tile-index (scene l.records l.surface);
  undo : StaysUndoable (kept l.initial.bench.log) (scene l.initial.records l.initial.surface) (kept l.bench.log) (scene l.records l.surface);
}
