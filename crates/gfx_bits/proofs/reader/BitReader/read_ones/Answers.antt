use Rattle.std.proofs.Common.{◌≡◌, ◌+◌, ◌≤◌, ◌∙◌, ap, min, drop, suc, arith, length-drop, length}
use Rattle.gfx_bits.specs.Bits.{ones}
use Rattle.gfx_bits.proofs.Laws.{ones-drop, drop-ones, length-ones}
use Rattle.gfx_bits.proofs.reader.BitReader.read_ones.Goals as goal

pub returns-then-ahead-lt-WINDOW-clause-rest : goal.returns-then-ahead-lt-WINDOW-clause-rest
returns-then-ahead-lt-WINDOW-clause-rest c =
    let ahead : c.ones_of-ahead.result ≡ min 57 (ones c.windows.self) = c.ones_of-ahead.ensures c.windows.self c.peek.ensures.shows in
    c.pass.ensures
    ∙ ap (drop (c.ones_of-ahead.result + 1)) c.peek.ensures.same
    ∙ ap (λ k. drop k c.windows.self) {y = suc (ones c.windows.self)} (omega arith)
    ∙ c.windows.invariant.1

whole : (c : goal.After-saturating_add-count) → 57 ≤ ones c.windows.self
whole c =
    let ahead : c.ones_of-ahead.result ≡ min 57 (ones c.windows.self) = c.ones_of-ahead.ensures c.windows.self c.peek.ensures.shows in
    omega arith

rest : (c : goal.After-saturating_add-count) → c.pass-in-windows.new.self ≡ drop 57 c.windows.self
rest c = c.pass-in-windows.ensures ∙ ap (drop 57) c.peek.ensures.same

pub windows-smaller : goal.windows-smaller
windows-smaller c = omega (arith, whole c, length-ones c.windows.self, ap length (rest c), length-drop 57 c.windows.self)

pub windows-preserved : goal.windows-preserved
windows-preserved c =
    rw (rest c) (
      omega (arith, c.saturating_add-count.ensures, ones-drop 57 c.windows.self (whole c), c.windows.invariant.0),
      drop-ones 57 c.windows.self (whole c) ∙ c.windows.invariant.1,
    )
