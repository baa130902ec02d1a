use Rattle.std.proofs.Common.{◌∙◌, ◌%◌, ◌*◌, ◌^◌, ap, subst, sym, drop, arith}
use Rattle.gfx_bits.specs.Ahead.{bits_ahead, IsAhead}
use Rattle.gfx_bits.proofs.Ahead.{past_some}
use Rattle.gfx_bits.proofs.reader.behind.Goals as goal

pub invariant_of-result : goal.invariant_of-result
invariant_of-result c =
    subst (IsAhead (c.filled_by_bytes-ahead.result.0 * 2 ^ c.args.n % 2 ^ 64)) (sym c.saturating_sub.ensures)
    (past_some c.filled_by_bytes-ahead.result.0 c.filled_by_bytes-ahead.result.1 c.args.n c.filled_by_bytes-ahead.result.2.now (omega arith) c.filled_by_bytes-ahead.ensures.ahead c.requires.few (λ h. c.filled_by_bytes-ahead.ensures.enough (omega (arith, c.requires.few)))).1

pub returns : goal.returns
returns c =
    ap (λ k. bits_ahead (c.filled_by_bytes-ahead.result.0 * 2 ^ c.args.n % 2 ^ 64) k c.filled_by_bytes-ahead.result.2.now) c.saturating_sub.ensures
    ∙ (past_some c.filled_by_bytes-ahead.result.0 c.filled_by_bytes-ahead.result.1 c.args.n c.filled_by_bytes-ahead.result.2.now (omega arith) c.filled_by_bytes-ahead.ensures.ahead c.requires.few (λ h. c.filled_by_bytes-ahead.ensures.enough (omega (arith, c.requires.few)))).0
    ∙ ap (drop c.args.n) c.filled_by_bytes-ahead.ensures.same
