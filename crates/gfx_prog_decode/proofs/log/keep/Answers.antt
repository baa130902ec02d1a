use Rattle.gfx_prog_decode.specs.Scene.{scene}
use Rattle.gfx_prog_decode.specs.Undo.{Kept, kept}
use Rattle.gfx_prog_decode.proofs.Steps.{where_err}
use Rattle.gfx_prog_decode.proofs.Undoing.{keeps_both, stays_recorded}
use Rattle.gfx_prog_decode.proofs.log.keep.Goals as goal

pub returns-clause-ok : goal.returns-clause-ok
returns-clause-ok c =
    let more : Kept = record { cells = c.keep-2.new.self.cells.items; tiles = c.keep.new.self.tiles.items } in
    keeps_both c.args.key (scene c.args.records.now c.args.surface.now) (kept c.args.log.now) more c.in_ok-keep.ensures.ok (rw c.cell.ensures at c.in_ok-keep-2.ensures.ok)

pub returns-in_err-keep-2-clause-err : goal.returns-in_err-keep-2-clause-err
returns-in_err-keep-2-clause-err c =
    let more : Kept = record { cells = c.keep-2.new.self.cells.items; tiles = c.keep.new.self.tiles.items } in
    where_err c.from_residual-in_err-keep-2.result _
    (stays_recorded c.args.key (scene c.args.records.now c.args.surface.now) (kept c.args.log.now) more c.in_ok-keep.ensures.ok c.in_err-keep-2.ensures.err)
