use Rattle.gfx_prog_decode.specs.Scene.{scene}
use Rattle.gfx_prog_decode.specs.Undo.{Kept, kept}
use Rattle.gfx_prog_decode.proofs.CellLemmas.{key_lies}
use Rattle.gfx_prog_decode.proofs.Steps.{where_err}
use Rattle.gfx_prog_decode.proofs.Undoing.{keeps_both, stays_pictured, stays_same}
use Rattle.gfx_prog_decode.proofs.log.exchange.Goals as goal

pub keep-requires : goal.keep-requires
keep-requires c = key_lies c.args.surface.now c.args.key c.cell.result c.cell.ensures c.requires.begins

pub returns-clause-keeps : goal.returns-clause-keeps
returns-clause-keeps c =
    let more : Kept = record { cells = c.keep.new.self.cells.items; tiles = c.exchange.new.self.tiles.items } in
    keeps_both c.args.key (scene c.args.records.now c.args.surface.now) (kept c.args.log.now) more c.in_ok-exchange.ensures.keeps (rw c.cell.ensures at c.in_ok-keep.ensures.ok)

pub returns-in_err-keep-clause-undo : goal.returns-in_err-keep-clause-undo
returns-in_err-keep-clause-undo c =
    let more : Kept = record { cells = c.keep.new.self.cells.items; tiles = c.args.log.now.records.tiles.items } in
    where_err c.from_residual.result _
    (stays_same (kept c.args.log.now) more (scene c.args.records.now c.args.surface.now) (λ i. record { cells = c.in_err-keep.ensures.err i; tiles = c.args.log.now.records.tiles.items }))

pub returns-in_err-exchange-clause-undo : goal.returns-in_err-exchange-clause-undo
returns-in_err-exchange-clause-undo c =
    let more : Kept = record { cells = c.keep.new.self.cells.items; tiles = c.exchange.new.self.tiles.items } in
    where_err c.from_residual-in_err-exchange.result _
    (stays_pictured c.args.key (scene c.args.records.now c.args.surface.now) c.exchange.new.records (kept c.args.log.now) more c.requires.shape
    (rw c.cell.ensures at c.in_ok-keep.ensures.ok) c.in_err-exchange.ensures.log c.in_err-exchange.ensures.same)
