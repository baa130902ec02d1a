use Rattle.std.proofs.Common.{◌*◌, ◌+◌, ◌≤◌, ◌^◌, lit≤, ◌∙◌, arith}
use Rattle.std.proofs.Math.Nat.{mul-le-mul_right}
use Rattle.gfx_dwt.specs.Place.{low_size}
use Rattle.gfx_dwt.specs.Samples.{column}
use Rattle.gfx_dwt.specs.Splitting.{grows, low_half}
use Rattle.gfx_dwt.proofs.Planes.{all_more, cells_within, column_within}
use Rattle.gfx_dwt.proofs.SplitBounds.{high_plane_within}
use Rattle.gfx_dwt.proofs.SplitSame.{low_half_within, low_from}
use Rattle.gfx_dwt.proofs.Strips.{row_put}
use Rattle.gfx_dwt.proofs.splitting.split_columns.Goals as goal

pub lows-init : goal.lows-init
lows-init c = λ i x p q.
    let size = c.high_size-r.ensures in
    c.split_pairs.ensures.lows i x (omega arith) q

pub lows-preserved : goal.lows-preserved
lows-preserved c =
    let w = c.args.width in
    let t = c.args.transform in
    let l = c.args.level in
    let source = c.args.source.now in
    let high = c.split_pairs.new.high in
    let more : (c.lows.r + 1) * w ≤ low_size t l * w = mul-le-mul_right w (omega arith) in
    row_put w c.lows.r _ c.lows.low c.low_row.new.out (λ i j. low_half t l (column w source j) i) (omega arith) (omega arith) c.lows.invariant
    (λ x q. c.low_row.ensures x q ∙ low_from t l (column w source x) (column w high x) (λ k h. c.split_pairs.ensures.highs k x h q) c.lows.r)

pub returns-clause-lows : goal.returns-clause-lows
returns-clause-lows c = λ r x p q.
    let size = c.low_size-r-end.ensures in
    c.lows.invariant r x (omega arith) q

pub returns-clause-low_within : goal.returns-clause-low_within
returns-clause-low_within c = λ bound all.
    let w = c.args.width in
    let t = c.args.transform in
    let l = c.args.level in
    cells_within w (low_size t l) (grows t l * bound) c.lows.low (c.lows.auto.low ∙ c.split_pairs.auto.low ∙ c.requires.low_len)
    (λ r x p q. rw (returns-clause-lows c r x p q)
    (low_half_within t l bound (column w c.args.source.now x) (λ k h. column_within w w bound c.args.source.now c.requires.source_len all x q k (omega arith)) r p))

pub returns-clause-high_within : goal.returns-clause-high_within
returns-clause-high_within c = λ bound all.
    high_plane_within c.args.transform c.args.level c.args.width bound c.args.source.now c.split_pairs.new.high c.requires.width c.requires.source_len (c.split_pairs.auto.high ∙ c.requires.high_len) c.split_pairs.ensures.highs all

pub low_row-requires-clause-high : goal.low_row-requires-clause-high
low_row-requires-clause-high c =
    all_more (2 ^ 26) (2 ^ 28) _ (lit≤ tt)
    (high_plane_within c.args.transform c.args.level c.args.width (2 ^ 26) c.args.source.now c.split_pairs.new.high c.requires.width c.requires.source_len (c.split_pairs.auto.high ∙ c.requires.high_len) c.split_pairs.ensures.highs c.requires.source)
