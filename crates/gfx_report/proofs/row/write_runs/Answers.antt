use Rattle.std.proofs.Common.{arith, length-take}
use Rattle.gfx_report.specs.Texts.{pixel_digits}
use Rattle.gfx_report.proofs.Writing.{Sent_run, Sent_front, Sent_broken, Writes_failed}
use Rattle.gfx_report.proofs.row.write_runs.Goals as goal

pub returns-in_err-write_run : goal.returns-in_err-write_run
returns-in_err-write_run g c =
    let cut = Sent_run pixel_digits _ _ c.args.surface.now c.runs.x c.args.y c.min-count.result _ (simp length-take (omega arith)) c.runs.invariant.sent in
    Writes_failed c.from_residual.result _ _ c.from_residual.ensures.0
    (Sent_broken _ _ _ _ _ _ _ _ _ cut c.in_err-write_run.ensures)

pub runs-preserved : goal.runs-preserved
runs-preserved g c = record {
  within = omega arith;
  sent =
      let cut = Sent_run pixel_digits _ _ c.args.surface.now c.runs.x c.args.y c.min-count.result _ (simp length-take (omega arith)) c.runs.invariant.sent in
      Sent_front _ _ _ _ _ _ _ _ _ cut c.in_ok-write_run.ensures;
}
