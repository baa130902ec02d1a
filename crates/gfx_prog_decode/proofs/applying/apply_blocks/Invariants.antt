use Rattle.gfx_prog_decode.specs.Progressive.{after_block}
use Rattle.gfx_prog_decode.specs.Scene.{scene}
use Rattle.gfx_prog_decode.specs.Undo.{StaysUndoable, kept}
use Rattle.gfx_prog_decode.proofs.Steps.{SoFar}
use Rattle.gfx_prog_decode.proofs.applying.apply_blocks.Given as goal

-- what the blocks so far made, and that it can be undone
abbrev pub invariant-all : goal.invariant-all
invariant-all l = record {
  so : SoFar (after_block l.place) l.blocks (scene l.initial.records l.initial.surface) l.block-index (scene l.records l.surface);
  undo : StaysUndoable (kept l.initial.bench.log) (scene l.initial.records l.initial.surface) (kept l.bench.log) (scene l.records l.surface);
}
