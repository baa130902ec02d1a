use Rattle.std.proofs.Common.{◌-◌, ◌^◌, ◌∙◌, sym, lit≤, arith}
use Rattle.gfx_dwt.specs.Samples.{column}
use Rattle.gfx_dwt.proofs.Edges.{high_le_low}
use Rattle.gfx_dwt.proofs.Planes.{column_within}
use Rattle.gfx_dwt.proofs.Same.{within_more}
use Rattle.gfx_dwt.proofs.SplitLines.{evens_inside, low_inside}
use Rattle.gfx_dwt.proofs.SplitSame.{high_half_within, is_high, low_of_same, next_inside}
use Rattle.gfx_dwt.proofs.splitting.split_pair.Goals as goal

pub divide-requires-clause-known : goal.divide-requires-clause-known
divide-requires-clause-known c = λ k h.
    let t = c.args.transform in
    let l = c.args.level in
    let w = c.args.width in
    rw (c.requires.known k (omega arith))
    (within_more (2 ^ 26) (2 ^ 28) _ (lit≤ tt)
    (high_half_within t l (2 ^ 26) (column w c.args.source.now k) (λ r p. column_within w w (2 ^ 26) c.args.source.now c.requires.source_len c.requires.source k (omega arith) r (omega arith)) (c.args.index - 1) (omega arith)))

pub returns-clause-known : goal.returns-clause-known
returns-clause-known c = λ k h.
    let t = c.args.transform in
    let l = c.args.level in
    let line = column c.args.width c.args.source.now k in
    let le = high_le_low t l in
    is_high t l line c.args.index _ _ _ _ (c.divide.ensures.known k (omega arith)) (c.row-2.ensures.each k h)
    (c.row.ensures.each k h ∙ sym (evens_inside t l line c.args.index (omega arith)))
    (rw c.requires.next at (c.row-3.ensures.each k h) ∙ sym (evens_inside t l line _ (next_inside t l c.args.index c.requires.index)))

pub returns-clause-highs : goal.returns-clause-highs
returns-clause-highs c = λ k h. c.divide.ensures.highs k (omega arith) ∙ sym (c.divide.ensures.known k (omega arith)) ∙ returns-clause-known c k h

pub returns-clause-lows : goal.returns-clause-lows
returns-clause-lows c = λ k h.
    let t = c.args.transform in
    let l = c.args.level in
    let line = column c.args.width c.args.source.now k in
    let le = high_le_low t l in
    low_of_same t _ _ _ _ _ _ _ (c.divide.ensures.lows k (omega arith))
    (c.row.ensures.each k h ∙ sym (evens_inside t l line c.args.index (omega arith)))
    (c.requires.known k h)
    (sym (c.divide.ensures.known k (omega arith)) ∙ returns-clause-known c k h)
    ∙ sym (low_inside t l line c.args.index c.requires.index)
