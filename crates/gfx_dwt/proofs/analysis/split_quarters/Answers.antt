use Rattle.std.proofs.Common.{◌≡◌, ◌+◌, ◌*◌, ◌++◌, length, ◌∙◌, refl, arith}
use Rattle.gfx_dwt.specs.Place.{high_size, low_size}
use Rattle.gfx_dwt.specs.Splitting.{grows}
use Rattle.gfx_dwt.proofs.Planes.{all_more, append_within, first_part, second_part, third_part, place_in}
use Rattle.gfx_dwt.proofs.SplitSame.{grows_two}
use Rattle.gfx_dwt.proofs.analysis.split_quarters.Goals as goal

pub returns-clause-high_low : goal.returns-clause-high_low
returns-clause-high_low c = λ r x p q.
    let t = c.args.transform in
    let l = c.args.level in
    let n = low_size t l in
    let m = high_size t l in
    let e : c.low_size-low_size.result ≡ n = c.low_size-low_size.ensures in
    let f : c.high_size-high_size.result ≡ m = c.high_size-high_size.ensures in
    let hl = c.split_rows.new.high in
    let ll = c.split_rows.new.low in
    let lh = c.split_rows-2.new.low in
    let hh = c.split_rows-2.new.high in
    let hl_len : length hl ≡ n * m = c.split_rows.auto.high ∙ c.split_at_mut-hl.ensures.front_len ∙ rw (e, f) refl in
    let lh_len : length lh ≡ m * n = c.split_rows-2.auto.low ∙ c.split_at_mut-lh.ensures.front_len ∙ rw (e, f) refl in
    let hh_len : length hh ≡ m * m = c.split_rows-2.auto.high ∙ c.split_at_mut-hh.ensures.front_len ∙ rw f refl in
    first_part hl (lh ++ (hh ++ ll)) (r * m + x) (rw hl_len (place_in m n r x p q)) ∙ c.split_rows.ensures.highs r x (rw e p) q

pub returns-clause-low_high : goal.returns-clause-low_high
returns-clause-low_high c = λ r x p q.
    let t = c.args.transform in
    let l = c.args.level in
    let n = low_size t l in
    let m = high_size t l in
    let e : c.low_size-low_size.result ≡ n = c.low_size-low_size.ensures in
    let f : c.high_size-high_size.result ≡ m = c.high_size-high_size.ensures in
    let hl = c.split_rows.new.high in
    let ll = c.split_rows.new.low in
    let lh = c.split_rows-2.new.low in
    let hh = c.split_rows-2.new.high in
    let hl_len : length hl ≡ n * m = c.split_rows.auto.high ∙ c.split_at_mut-hl.ensures.front_len ∙ rw (e, f) refl in
    let lh_len : length lh ≡ m * n = c.split_rows-2.auto.low ∙ c.split_at_mut-lh.ensures.front_len ∙ rw (e, f) refl in
    let hh_len : length hh ≡ m * m = c.split_rows-2.auto.high ∙ c.split_at_mut-hh.ensures.front_len ∙ rw f refl in
    second_part (n * m) hl lh (hh ++ ll) hl_len (r * n + x) (rw lh_len (place_in n m r x p q)) ∙ c.split_rows-2.ensures.lows r x (rw f p) q

pub returns-clause-high_high : goal.returns-clause-high_high
returns-clause-high_high c = λ r x p q.
    let t = c.args.transform in
    let l = c.args.level in
    let n = low_size t l in
    let m = high_size t l in
    let e : c.low_size-low_size.result ≡ n = c.low_size-low_size.ensures in
    let f : c.high_size-high_size.result ≡ m = c.high_size-high_size.ensures in
    let hl = c.split_rows.new.high in
    let ll = c.split_rows.new.low in
    let lh = c.split_rows-2.new.low in
    let hh = c.split_rows-2.new.high in
    let hl_len : length hl ≡ n * m = c.split_rows.auto.high ∙ c.split_at_mut-hl.ensures.front_len ∙ rw (e, f) refl in
    let lh_len : length lh ≡ m * n = c.split_rows-2.auto.low ∙ c.split_at_mut-lh.ensures.front_len ∙ rw (e, f) refl in
    let hh_len : length hh ≡ m * m = c.split_rows-2.auto.high ∙ c.split_at_mut-hh.ensures.front_len ∙ rw f refl in
    third_part (n * m) (m * n) hl lh hh ll hl_len lh_len (r * m + x) (rw hh_len (place_in m m r x p q)) ∙ c.split_rows-2.ensures.highs r x (rw f p) q

pub returns-clause-within : goal.returns-clause-within
returns-clause-within c = λ bound p q.
    let t = c.args.transform in
    let l = c.args.level in
    let two = grows_two t l bound in
    let more = grows t l * bound in
    append_within more _ _ (all_more bound more _ (omega arith) (c.split_rows.ensures.high_within bound p))
    (append_within more _ _ (c.split_rows-2.ensures.low_within bound q)
    (append_within more _ _ (all_more bound more _ (omega arith) (c.split_rows-2.ensures.high_within bound q)) (c.split_rows.ensures.low_within bound p)))
