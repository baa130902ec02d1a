use Rattle.std.proofs.Common.{sym}
use Rattle.std.proofs.lemmas.Result.{err_from_is_err_and}
use Rattle.std.specs.FinMap.{get}
use Rattle.gfx_prog_decode.specs.Inside.{coding_seen}
use Rattle.gfx_prog_decode.specs.Progressive.{is_difference}
use Rattle.gfx_prog_decode.specs.Scene.{scene}
use Rattle.gfx_prog_decode.specs.Undo.{kept}
use Rattle.gfx_prog_decode.proofs.Steps.{first_done, first_failed, first_uncoded, first_unstarted, started_shown}
use Rattle.gfx_prog_decode.proofs.Tiles.{begun_alike}
use Rattle.gfx_prog_decode.proofs.applying.apply_first.Goals as goal

pub returns-in_err-shape-clause-gives : goal.returns-in_err-shape-clause-gives
returns-in_err-shape-clause-gives c =
    let p = err_from_is_err_and c.from_residual.result c.from_residual.ensures.1 in
    rw (p.1, p.2) (first_uncoded c.args.place c.args.region.now c.args.head.now c.args.flags c.args.quality c.args.pass.now (scene c.args.records.now c.args.surface.now)
    c.in_err-shape.field-0.0 (rw c.size.ensures.size at c.in_err-shape.ensures.value))

pub returns-in_err-check_start-clause-gives : goal.returns-in_err-check_start-clause-gives
returns-in_err-check_start-clause-gives c =
    let p = err_from_is_err_and c.from_residual-in_err-check_start.result c.from_residual-in_err-check_start.ensures.1 in
    rw (p.1, p.2) (first_unstarted c.args.place c.args.region.now c.args.head.now c.args.flags c.args.quality c.args.pass.now (scene c.args.records.now c.args.surface.now)
    (coding_seen c.in_ok-shape.shape) (rw c.size.ensures.size at c.in_ok-shape.ensures.value) c.in_err-check_start.field-0.0
    (sym (rw (c.get.ensures, c.count.ensures, c.key-key.ensures) at c.in_err-check_start.ensures)))

pub start-requires-clause-fits : goal.start-requires-clause-fits
start-requires-clause-fits c =
    begun_alike (get c.args.records.now c.key-key.result) c.count.result c.in_ok-shape.shape.transform (is_difference c.args.flags)
    (rw c.get.ensures at c.in_ok-check_start.ensures)

pub returns-in_err-start-clause-gives : goal.returns-in_err-start-clause-gives
returns-in_err-start-clause-gives c =
    let p = err_from_is_err_and c.from_residual-in_err-start.result c.from_residual-in_err-start.ensures.1 in
    rw (p.1, p.2) (first_failed c.args.place c.args.region.now c.args.head.now c.args.flags c.args.quality c.args.pass.now (scene c.args.records.now c.args.surface.now)
    (coding_seen c.in_ok-shape.shape) (rw c.size.ensures.size at c.in_ok-shape.ensures.value) c.in_err-start.field-0.0 c.start.new.records (scene c.start.new.records c.args.surface.now)
    (sym (rw (c.get.ensures, c.count.ensures, c.key-key.ensures) at c.in_ok-check_start.ensures)) (rw c.key-key.ensures at c.in_err-start.ensures.starts))

pub returns-clause-gives : goal.returns-clause-gives
returns-clause-gives c =
    first_done c.args.place c.args.region.now c.args.head.now c.args.flags c.args.quality c.args.pass.now (scene c.args.records.now c.args.surface.now)
    (coding_seen c.in_ok-shape.shape) (rw c.size.ensures.size at c.in_ok-shape.ensures.value) c.start.new.records c.show_record.new.surface
    (sym (rw (c.get.ensures, c.count.ensures, c.key-key.ensures) at c.in_ok-check_start.ensures)) (rw c.key-key.ensures at c.in_ok-start.ensures.starts)
    (rw (c.as_slice.ensures, c.key-key.ensures) at c.show_record.ensures.shown)

pub returns-clause-undo : goal.returns-clause-undo
returns-clause-undo c =
    rw c.show_record.ensures.log
    (started_shown c.key-key.result c.args.records.now c.start.new.records _ c.args.surface.now c.show_record.new.surface c.as_slice.result.now
    (kept c.args.bench.now.log) (kept c.start.new.bench.log) c.in_ok-start.ensures.starts c.show_record.ensures.shown c.in_ok-start.ensures.keeps)
