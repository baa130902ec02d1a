use Rattle.std.proofs.Common.{◌+◌, ◌∙◌, ap, arith, drop, sym, subst}
use Rattle.std.proofs.lemmas.List.{drop-drop}
use Rattle.gfx_bits.specs.Bits.{Spelled, zeros_code}
use Rattle.gfx_bits.specs.Ahead.{bits_ahead}
use Rattle.gfx_bits.proofs.Zeros.{more-read, ends-read, most-read}
use Rattle.gfx_bits.proofs.reader.many_zeros.Goals as goal

pub returns-then-zeros-room-clause-spelled : goal.returns-then-zeros-room-clause-spelled
returns-then-zeros-room-clause-spelled c =
    subst (Spelled (bits_ahead c.args.ahead c.args.count c.args.rest.now) (zeros_code c.args.most (c.windows.found + c.zeros_of-zeros.result)))
    (drop-drop 1 c.zeros_of-zeros.result c.windows.reader
    ∙ ap (λ k. drop k c.windows.reader) {y = c.zeros_of-zeros.result + 1} (omega arith)
    ∙ sym (c.pass.ensures ∙ ap (drop (c.zeros_of-zeros.result + 1)) c.peek.ensures.same))
    (ends-read (bits_ahead c.args.ahead c.args.count c.args.rest.now) (drop c.zeros_of-zeros.result c.windows.reader) c.args.most (c.windows.found + c.zeros_of-zeros.result) (omega arith)
    (more-read (bits_ahead c.args.ahead c.args.count c.args.rest.now) c.windows.reader (drop c.zeros_of-zeros.result c.windows.reader) c.windows.found c.zeros_of-zeros.result c.windows.invariant.1
    (c.zeros_of-zeros.ensures.zeros c.windows.reader c.peek.ensures.shows c.zeros_of-zeros.result (omega arith)))
    (c.zeros_of-zeros.ensures.ends c.windows.reader c.peek.ensures.shows (omega arith)))

pub windows-preserved : goal.windows-preserved
windows-preserved c = (
  omega arith,
  more-read (bits_ahead c.args.ahead c.args.count c.args.rest.now) c.windows.reader c.pass-in-windows.new.self c.windows.found c.min-room.result c.windows.invariant.1
      (rw (c.pass-in-windows.ensures ∙ ap (drop c.min-room.result) c.peek.ensures.same)
      (c.zeros_of-zeros.ensures.zeros c.windows.reader c.peek.ensures.shows c.min-room.result (omega arith))),
)

pub returns-clause-spelled : goal.returns-clause-spelled
returns-clause-spelled c = most-read (bits_ahead c.args.ahead c.args.count c.args.rest.now) c.windows.reader c.args.most c.windows.found (omega arith) c.windows.invariant.1
