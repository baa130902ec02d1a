use Rattle.std.proofs.Common.{◌≡◌, ℕ, ◌+◌, ◌*◌, ◌<◌, ◌^◌, lit≤, zero-add, ap, ◌∙◌, arith}
use Rattle.gfx_dwt.specs.Coefficients.{split, half}
use Rattle.gfx_dwt.specs.Place.{high_size, low_size, line_size, low_start}
use Rattle.gfx_dwt.specs.Samples.{cell, column, quarter}
use Rattle.gfx_dwt.specs.Splitting.{grows, low_half, high_half}
use Rattle.gfx_dwt.proofs.Planes.{all_more}
use Rattle.gfx_dwt.proofs.SplitSame.{grows_two, grows_three, high_half_same, low_half_same}
use Rattle.gfx_dwt.proofs.analysis.split_level.Goals as goal

pub split_quarters-requires-clause-above : goal.split_quarters-requires-clause-above
split_quarters-requires-clause-above c =
    let three = grows_three c.args.transform c.args.level (2 ^ 26) in
    all_more (grows c.args.transform c.args.level * 2 ^ 26) (2 ^ 28) _ (omega arith) (c.split_columns.ensures.low_within (2 ^ 26) c.requires.part)

pub split_quarters-requires-clause-below : goal.split_quarters-requires-clause-below
split_quarters-requires-clause-below c =
    all_more (2 ^ 26) (2 ^ 28) _ (lit≤ tt) (c.split_columns.ensures.high_within (2 ^ 26) c.requires.part)

pub returns-clause-quarters : goal.returns-clause-quarters
unfolding split half
returns-clause-quarters c =
    let t = c.args.transform in
    let l = c.args.level in
    let part = c.args.part.now in
    let e : c.low_size.result + c.high_size.result ≡ line_size t l = omega arith in
    let q = c.split_quarters.ensures in
    let lows : (r x : ℕ) → r < low_size t l → x < line_size t l → cell (line_size t l) c.split_columns.new.low r x ≡ low_half t l (column (line_size t l) part x) r = rw e at c.split_columns.ensures.lows in
    let highs : (r x : ℕ) → r < high_size t l → x < line_size t l → cell (line_size t l) c.split_columns.new.high r x ≡ high_half t l (column (line_size t l) part x) r = rw e at c.split_columns.ensures.highs in
    record {
      low_low = λ r x p d. ap (λ s. quarter s (low_size t l) c.split_quarters.new.part r x) (zero-add (low_start t l)) ∙ q.low_low r x p d ∙ low_half_same t l _ _ (λ k h. lows r k p h) x d;
      high_low = λ r x p d. q.high_low r x p d ∙ high_half_same t l _ _ (λ k h. lows r k p h) x d;
      low_high = λ r x p d. ap (λ s. quarter s (low_size t l) c.split_quarters.new.part r x) (zero-add (low_size t l * high_size t l)) ∙ q.low_high r x p d ∙ low_half_same t l _ _ (λ k h. highs r k p h) x d;
      high_high = λ r x p d. ap (λ s. quarter s (high_size t l) c.split_quarters.new.part r x) (zero-add (low_size t l * high_size t l + high_size t l * low_size t l)) ∙ q.high_high r x p d ∙ high_half_same t l _ _ (λ k h. highs r k p h) x d;
    }

pub returns-clause-within : goal.returns-clause-within
returns-clause-within c = λ bound all.
    let two = grows_two c.args.transform c.args.level bound in
    c.split_quarters.ensures.within (grows c.args.transform c.args.level * bound) (c.split_columns.ensures.low_within bound all)
    (all_more bound (grows c.args.transform c.args.level * bound) _ (omega arith) (c.split_columns.ensures.high_within bound all))
