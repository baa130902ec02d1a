use Rattle.std.proofs.Common.{◌≡◌, ℕ, ◌+◌, ◌*◌, ◌≤◌, length, ◌∙◌, refl, arith}
use Rattle.std.proofs.lemmas.Nat.{row_fits}
use Rattle.gfx_dwt.specs.Samples.{cell}
use Rattle.gfx_dwt.specs.Splitting.{high_half, low_half, grows}
use Rattle.gfx_dwt.proofs.Planes.{cells_within, column_within}
use Rattle.gfx_dwt.proofs.SplitSame.{high_half_same, low_half_same, high_half_within, low_half_within}
use Rattle.gfx_dwt.proofs.Strips.{row_put}
use Rattle.gfx_dwt.proofs.splitting.split_rows.Goals as goal

pub loop-r-preserved : goal.loop-r-preserved
loop-r-preserved c =
    let r = c.loop-r.r in
    let t = c.args.transform in
    let l = c.args.level in
    let n = c.low_size-low_size.result in
    let m = c.high_size-high_size.result in
    let source = c.args.source.now in
    let f : ℕ → ℕ → _ = λ i. low_half t l (cell (n + m) source i) in
    let g : ℕ → ℕ → _ = λ i. high_half t l (cell (n + m) source i) in
    let low_is = c.low_size-low_size.ensures in
    let high_is = c.high_size-high_size.ensures in
    let low_len : length c.loop-r.low ≡ c.args.rows * n = c.loop-r.auto.low ∙ c.requires.low_len ∙ rw low_is refl in
    let high_len : length c.loop-r.high ≡ c.args.rows * m = c.loop-r.auto.high ∙ c.requires.high_len ∙ rw high_is refl in
    let low_fits : r * n + n ≤ length c.loop-r.low = rw low_len (row_fits r n c.args.rows n (omega arith) (omega arith)) in
    let high_fits : r * m + m ≤ length c.loop-r.high = rw high_len (row_fits r m c.args.rows m (omega arith) (omega arith)) in
    record {
      lows = row_put n r _ c.loop-r.low c.split_line.new.low f low_fits (omega arith) c.loop-r.invariant.lows
          (λ k p. c.split_line.ensures.lows k (omega arith) ∙ low_half_same t l _ _ (λ j q. c.row-line.ensures.each j (omega arith)) k (omega arith));
      highs = row_put m r _ c.loop-r.high c.split_line.new.high g high_fits (omega arith) c.loop-r.invariant.highs
          (λ k p. c.split_line.ensures.highs k (omega arith) ∙ high_half_same t l _ _ (λ j q. c.row-line.ensures.each j (omega arith)) k (omega arith));
    }

pub returns-clause-low_within : goal.returns-clause-low_within
returns-clause-low_within c = λ bound all.
    let t = c.args.transform in
    let l = c.args.level in
    let n = c.low_size-low_size.result in
    let w = n + c.high_size-high_size.result in
    let low_is = c.low_size-low_size.ensures in
    let high_is = c.high_size-high_size.ensures in
    cells_within n c.args.rows (grows t l * bound) c.loop-r.low (c.loop-r.auto.low ∙ c.requires.low_len ∙ rw low_is refl)
    (λ r j p q. rw (c.loop-r.invariant.lows r j (omega arith) q)
    (low_half_within t l bound (cell w c.args.source.now r) (λ k h. column_within w c.args.rows bound c.args.source.now (rw (low_is, high_is) c.requires.source_len) all k (omega arith) r p) j (omega arith)))

pub returns-clause-high_within : goal.returns-clause-high_within
returns-clause-high_within c = λ bound all.
    let t = c.args.transform in
    let l = c.args.level in
    let m = c.high_size-high_size.result in
    let w = c.low_size-low_size.result + m in
    let low_is = c.low_size-low_size.ensures in
    let high_is = c.high_size-high_size.ensures in
    cells_within m c.args.rows bound c.loop-r.high (c.loop-r.auto.high ∙ c.requires.high_len ∙ rw high_is refl)
    (λ r j p q. rw (c.loop-r.invariant.highs r j (omega arith) q)
    (high_half_within t l bound (cell w c.args.source.now r) (λ k h. column_within w c.args.rows bound c.args.source.now (rw (low_is, high_is) c.requires.source_len) all k (omega arith) r p) j (omega arith)))
