use Rattle.gfx_report.proofs.Writing.{Writes_failed}
use Rattle.gfxpipe.proofs.Sessions.{digests_at, line_sent, line_broken}
use Rattle.gfxpipe.proofs.session.write_acks.Goals as goal

pub write_line-requires : goal.write_line-requires
write_line-requires g c = digests_at c.args.acks.now c.acks.ack-index _ c.acks-test.true c.requires

pub returns-in_err-write_line : goal.returns-in_err-write_line
returns-in_err-write_line g c =
    Writes_failed c.from_residual.result _ _ c.from_residual.ensures.0
    (line_broken _ _ _ _ _ _ c.args.acks.now c.acks.ack-index _ c.acks-test.true c.acks.invariant c.in_err-write_line.ensures)

pub acks-preserved : goal.acks-preserved
acks-preserved g c = line_sent _ _ _ _ _ _ c.args.acks.now c.acks.ack-index _ c.acks-test.true c.acks.invariant c.in_ok-write_line.ensures
