use Rattle.std.proofs.Common.{rules, ◌≡◌, length, ap, arith}
use Rattle.gfx_pdu.proofs.Fronts.{front-longer, front-keeps}
use Rattle.gfx_pdu.proofs.writing.write_pdu.Goals as goal

pub truncate-requires : goal.truncate-requires
truncate-requires c =
    let same : c.append.new.self ≡ c.write_front.new.out = search rules in
    let front = c.in_ok-lent.ensures in
    omega (arith, c.len-start.ensures, ap length same, front-longer c.args.pdu.now c.args.out.now c.write_front.new.out c.in_ok-lent.lent.now front.lent front.ok)

pub returns-then-is_err-clause-err : goal.returns-then-is_err-clause-err
returns-then-is_err-clause-err c =
    let same : c.append.new.self ≡ c.write_front.new.out = search rules in
    let front = c.in_ok-lent.ensures in
    rw (c.truncate.ensures, c.len-start.ensures, same) (front-keeps c.args.pdu.now c.args.out.now c.write_front.new.out c.in_ok-lent.lent.now front.lent front.ok)
