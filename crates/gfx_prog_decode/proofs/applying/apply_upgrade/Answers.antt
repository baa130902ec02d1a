use Rattle.std.proofs.lemmas.Result.{err_from_is_err_and}
use Rattle.gfx_prog_decode.specs.Inside.{coding_seen}
use Rattle.gfx_prog_decode.specs.Scene.{scene}
use Rattle.gfx_prog_decode.specs.Undo.{kept}
use Rattle.gfx_prog_decode.proofs.Steps.{started_shown, upgrade_done, upgrade_failed, upgrade_uncoded}
use Rattle.gfx_prog_decode.proofs.applying.apply_upgrade.Goals as goal

pub returns-in_err-shape-clause-gives : goal.returns-in_err-shape-clause-gives
returns-in_err-shape-clause-gives c =
    let p = err_from_is_err_and c.from_residual.result c.from_residual.ensures.1 in
    rw (p.1, p.2) (upgrade_uncoded c.args.place c.args.region.now c.args.head.now c.args.quality c.args.pass.now (scene c.args.records.now c.args.surface.now)
    c.in_err-shape.field-0.0 (rw c.size.ensures.size at c.in_err-shape.ensures.value))

pub returns-in_err-improve-clause-gives : goal.returns-in_err-improve-clause-gives
returns-in_err-improve-clause-gives c =
    let p = err_from_is_err_and c.from_residual-in_err-improve.result c.from_residual-in_err-improve.ensures.1 in
    rw (p.1, p.2) (upgrade_failed c.args.place c.args.region.now c.args.head.now c.args.quality c.args.pass.now (scene c.args.records.now c.args.surface.now)
    (coding_seen c.in_ok-shape.shape) (rw c.size.ensures.size at c.in_ok-shape.ensures.value) c.in_err-improve.field-0.0 c.improve.new.records (scene c.improve.new.records c.args.surface.now)
    (rw c.key-key.ensures at c.in_err-improve.ensures.starts))

pub returns-clause-gives : goal.returns-clause-gives
returns-clause-gives c =
    upgrade_done c.args.place c.args.region.now c.args.head.now c.args.quality c.args.pass.now (scene c.args.records.now c.args.surface.now)
    (coding_seen c.in_ok-shape.shape) (rw c.size.ensures.size at c.in_ok-shape.ensures.value) c.improve.new.records c.show_record.new.surface
    (rw c.key-key.ensures at c.in_ok-improve.ensures.starts) (rw (c.as_slice.ensures, c.key-key.ensures) at c.show_record.ensures.shown)

pub returns-clause-undo : goal.returns-clause-undo
returns-clause-undo c =
    rw c.show_record.ensures.log
    (started_shown c.key-key.result c.args.records.now c.improve.new.records _ c.args.surface.now c.show_record.new.surface c.as_slice.result.now
    (kept c.args.bench.now.log) (kept c.improve.new.bench.log) c.in_ok-improve.ensures.starts c.show_record.ensures.shown c.in_ok-improve.ensures.keeps)
