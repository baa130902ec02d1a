use Rattle.std.proofs.Common.{◌≡◌, ◌+◌, ◌≤◌, ◌∙◌, ap, min, drop, suc, arith, length-drop, length}
use Rattle.gfx_bits.specs.Bits.{ones}
use Rattle.gfx_bits.proofs.Laws.{ones-drop, drop-ones, length-ones}
use Rattle.gfx_rlgr.proofs.pair_reader.count_ones.Goals as goal

pub overflow_add-result : goal.overflow_add-result
overflow_add-result c =
    record { fits = omega (arith, c.windows.invariant.0, length-ones c.args.bits.now, c.requires, c.if-ahead-lt-WINDOW.true) }

pub returns-then-ahead-lt-WINDOW-clause-count : goal.returns-then-ahead-lt-WINDOW-clause-count
returns-then-ahead-lt-WINDOW-clause-count c =
    let ahead : c.ones_of-ahead.result ≡ min 57 (ones c.windows.bits) = c.ones_of-ahead.ensures c.windows.bits c.peek.ensures.shows in
    omega (arith, c.windows.invariant.0)

pub returns-then-ahead-lt-WINDOW-clause-rest : goal.returns-then-ahead-lt-WINDOW-clause-rest
returns-then-ahead-lt-WINDOW-clause-rest c =
    let ahead : c.ones_of-ahead.result ≡ min 57 (ones c.windows.bits) = c.ones_of-ahead.ensures c.windows.bits c.peek.ensures.shows in
    c.pass.ensures
    ∙ ap (drop (c.ones_of-ahead.result + 1)) c.peek.ensures.same
    ∙ ap (λ k. drop k c.windows.bits) {y = suc (ones c.windows.bits)} (omega arith)
    ∙ c.windows.invariant.1

pub overflow_add-count : goal.overflow_add-count
overflow_add-count c =
    let ahead : c.ones_of-ahead.result ≡ min 57 (ones c.windows.bits) = c.ones_of-ahead.ensures c.windows.bits c.peek.ensures.shows in
    record { fits = omega (arith, c.windows.invariant.0, length-ones c.args.bits.now, c.requires) }

pub windows-smaller : goal.windows-smaller
windows-smaller c =
    let ahead : c.ones_of-ahead.result ≡ min 57 (ones c.windows.bits) = c.ones_of-ahead.ensures c.windows.bits c.peek.ensures.shows in
    omega (arith, ahead, length-ones c.windows.bits, ap length (c.pass-in-windows.ensures ∙ ap (drop 57) c.peek.ensures.same), length-drop 57 c.windows.bits)

pub windows-preserved : goal.windows-preserved
windows-preserved c =
    let ahead : c.ones_of-ahead.result ≡ min 57 (ones c.windows.bits) = c.ones_of-ahead.ensures c.windows.bits c.peek.ensures.shows in
    let whole : 57 ≤ ones c.windows.bits = omega arith in
    rw (c.pass-in-windows.ensures ∙ ap (drop 57) c.peek.ensures.same) (
      omega (arith, ones-drop 57 c.windows.bits whole, c.windows.invariant.0),
      drop-ones 57 c.windows.bits whole ∙ c.windows.invariant.1,
    )
