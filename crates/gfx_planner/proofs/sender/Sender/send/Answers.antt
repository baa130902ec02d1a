use Rattle.std.proofs.lemmas.Result.{err_from_is_err_and}
use Rattle.gfx_planner.proofs.MessageSending.{none_sent, may_send_next, sent_next, not_sent, all_sent}
use Rattle.gfx_planner.proofs.sender.Sender.send.Goals as goal

pub pdus-init : goal.pdus-init
pdus-init c = none_sent c.args.self.now c.args.out.now c.args.pdus.now

pub send_one-requires-clause-carried : goal.send_one-requires-clause-carried
send_one-requires-clause-carried c =
    (may_send_next c.args.self.now c.args.out.now c.args.pdus.now c.pdus.pdu-index c.pdus.self c.pdus.out c.pdu-item.result c.requires c.pdus.invariant c.pdus-test.true c.pdu-item.is).0

pub send_one-requires-clause-accepted : goal.send_one-requires-clause-accepted
send_one-requires-clause-accepted c =
    (may_send_next c.args.self.now c.args.out.now c.args.pdus.now c.pdus.pdu-index c.pdus.self c.pdus.out c.pdu-item.result c.requires c.pdus.invariant c.pdus-test.true c.pdu-item.is).1

pub returns-in_err-send_one : goal.returns-in_err-send_one
returns-in_err-send_one c =
    let p = err_from_is_err_and c.from_residual.result c.from_residual.ensures.1 in
    rw p.1 (not_sent p.0 c.args.self.now c.args.out.now c.args.pdus.now c.pdus.pdu-index c.pdus.self c.send_one.new.self c.pdus.out c.send_one.new.out c.pdu-item.result
    c.pdus.invariant c.pdus-test.true c.pdu-item.is c.in_err-send_one.ensures)

pub pdus-preserved : goal.pdus-preserved
pdus-preserved c =
    sent_next c.args.self.now c.args.out.now c.args.pdus.now c.pdus.pdu-index c.pdus.self c.send_one.new.self c.pdus.out c.send_one.new.out c.pdu-item.result
    c.pdus.invariant c.pdus-test.true c.pdu-item.is c.in_ok-send_one.ensures

pub returns : goal.returns
returns c = all_sent c.args.self.now c.args.out.now c.args.pdus.now c.pdus.pdu-index c.pdus.self c.pdus.out c.pdus.invariant c.pdus-test.false
