use Rattle.std.proofs.Common.{true}
use Rattle.gfx_prog_decode.specs.Inside.{coding_seen}
use Rattle.gfx_prog_decode.specs.Passes.{started}
use Rattle.gfx_prog_decode.specs.Undo.{kept}
use Rattle.gfx_prog_decode.proofs.Steps.{begun_undone, self_undone, where_err}
use Rattle.gfx_prog_decode.proofs.starting.start_over.Goals as goal

pub returns-in_err-begin-clause-undo : goal.returns-in_err-begin-clause-undo
returns-in_err-begin-clause-undo c =
    where_err c.from_residual-in_err-begin.result _
    (self_undone c.args.key c.args.records.now c.begin.new.self c.args.surface.now (kept c.args.bench.now.log) (kept c.keep.new.log) c.requires.shape
    c.in_err-begin.ensures.err c.in_ok-keep.ensures.ok)

pub returns-in_err-start_record-clause-undo : goal.returns-in_err-start_record-clause-undo
returns-in_err-start_record-clause-undo c =
    where_err c.from_residual-in_err-start_record.result _
    (begun_undone c.args.key c.args.records.now c.begin.new.self c.start_record.new.records c.start_record.result (started true (coding_seen c.args.shape.now) c.args.pass.now)
    c.args.surface.now (kept c.args.bench.now.log) (kept c.keep.new.log) c.requires.shape c.in_ok-begin.ensures.begun c.start_record.ensures c.in_ok-keep.ensures.ok)

pub returns-in_err-keep-clause-undo : goal.returns-in_err-keep-clause-undo
returns-in_err-keep-clause-undo c = where_err c.from_residual.result _ c.in_err-keep.ensures.err
