use Rattle.std.proofs.Common.{◌-◌, drop, arith, sym, subst}
use Rattle.gfx_base.proofs.Wanting.{wants_any}
use Rattle.gfx_pdu.specs.Borrowed.{message_in}
use Rattle.gfx_pdu.specs.Spelling.{Begins}
use Rattle.gfx_pdu.proofs.Laws.{next_pdu-begins, next_pdu-headed}
use Rattle.gfx_pdu.proofs.reading.read_pdu.Goals as goal

pub returns-in_err-into_owned-clause-memory : goal.returns-in_err-into_owned-clause-memory
returns-in_err-into_owned-clause-memory c =
    wants_any c.from_residual-in_err-into_owned.result _
    (next_pdu-headed c.args.payload.now c.args.at (message_in (c.in-Some.pdu, c.in-Some.after)) (rw c.in-Some.is at c.in_ok-pdu.ensures.value))

pub returns-clause-spelled : goal.returns-clause-spelled
returns-clause-spelled c =
    subst (λ pdu. Begins (drop c.args.at c.args.payload.now) pdu (c.in-Some.after - c.args.at)) (sym c.in_ok-into_owned.ensures)
    (next_pdu-begins c.args.payload.now c.args.at (message_in (c.in-Some.pdu, c.in-Some.after)) (λ i. omega (arith, c.type_inv.payload i)) (rw c.in-Some.is at c.in_ok-pdu.ensures.value))
