use Rattle.std.proofs.Common.{◌≡◌, ℕ, ◌+◌, ◌*◌, ◌<◌, ◌∙◌, ap, sym, zero-add, refl, arith}
use Rattle.gfx_dwt.specs.Place.{high_size, low_size}
use Rattle.gfx_dwt.specs.Ranges.{at}
use Rattle.gfx_dwt.proofs.NarrowLines.{spare_high}
use Rattle.gfx_dwt.proofs.Planes.{front_at, place_in, places_within, tail_at}
use Rattle.gfx_dwt.proofs.Same.{joined_same}
use Rattle.gfx_dwt.proofs.Small.{small_highs, small_parts}
use Rattle.gfx_dwt.proofs.narrow.levels.join_narrow_quarters.Goals as goal

pub join_narrow_rows-most_above-requires-clause-small : goal.join_narrow_rows-most_above-requires-clause-small
join_narrow_rows-most_above-requires-clause-small c =
    let a = c.low_size-low_size.result * c.high_size-high_size.result in
    let hl = c.split_at.result.0.now in
    small_parts c.args.low.now c.args.bands.now c.args.low.now hl c.requires.small (λ bound all. all)
    (λ bound. places_within bound c.args.bands.now hl (λ k. k) (λ k h. front_at a _ _ c.split_at.ensures.front k (omega arith)))

pub join_narrow_rows-most_below-requires-clause-small : goal.join_narrow_rows-most_below-requires-clause-small
join_narrow_rows-most_below-requires-clause-small c =
    let a = c.low_size-low_size.result * c.high_size-high_size.result in
    let b = c.high_size-high_size.result * c.low_size-low_size.result in
    let bands = c.args.bands.now in
    let lh = c.split_at-2.result.0.now in
    let hh = c.split_at-2.result.1.now in
    small_highs c.args.low.now bands lh hh c.requires.small
    (λ bound. places_within bound bands lh (λ k. a + k) (λ k h. front_at b _ _ c.split_at-2.ensures.front k (omega arith) ∙ tail_at a _ _ c.split_at.ensures.back k))
    (λ bound. places_within bound bands hh (λ k. a + (b + k)) (λ k h. tail_at b _ _ c.split_at-2.ensures.back k ∙ tail_at a _ _ c.split_at.ensures.back (b + k)))

pub join_narrow_rows-most_below-requires-clause-spare_len : goal.join_narrow_rows-most_below-requires-clause-spare_len
join_narrow_rows-most_below-requires-clause-spare_len c =
    let t = c.args.transform in
    let l = c.args.level in
    let f : c.high_size-high_size.result ≡ high_size t l = c.high_size-high_size.ensures in
    let less = spare_high t l in
    let fits = c.requires.spare_len in
    rw f (omega (arith, less, fits))

pub returns-clause-above : goal.returns-clause-above
returns-clause-above c = λ r x p q.
    let t = c.args.transform in
    let l = c.args.level in
    let n = low_size t l in
    let m = high_size t l in
    let bands = c.args.bands.now in
    let e : c.low_size-low_size.result ≡ n = c.low_size-low_size.ensures in
    let f : c.high_size-high_size.result ≡ m = c.high_size-high_size.ensures in
    let a = c.low_size-low_size.result * c.high_size-high_size.result in
    let hl : (k : ℕ) → k < n * m → at c.split_at.result.0.now k ≡ at bands (0 + k) = λ k h.
    front_at a _ _ c.split_at.ensures.front k (rw (e, f) h) ∙ ap (at bands) (sym (zero-add k)) in
    c.join_narrow_rows-most_above.ensures.joined r x (rw e p) q
    ∙ joined_same t l _ _ _ _ (λ k h. refl) (λ k h. hl (r * m + k) (place_in m n r k p h)) x q

pub returns-clause-below : goal.returns-clause-below
returns-clause-below c = λ r x p q.
    let t = c.args.transform in
    let l = c.args.level in
    let n = low_size t l in
    let m = high_size t l in
    let bands = c.args.bands.now in
    let e : c.low_size-low_size.result ≡ n = c.low_size-low_size.ensures in
    let f : c.high_size-high_size.result ≡ m = c.high_size-high_size.ensures in
    let a = c.low_size-low_size.result * c.high_size-high_size.result in
    let b = c.high_size-high_size.result * c.low_size-low_size.result in
    let lh : (k : ℕ) → k < m * n → at c.split_at-2.result.0.now k ≡ at bands (n * m + k) = λ k h.
    front_at b _ _ c.split_at-2.ensures.front k (rw (e, f) h) ∙ tail_at a _ _ c.split_at.ensures.back k
    ∙ ap (at bands) (rw (e, f) refl) in
    let hh : (k : ℕ) → at c.split_at-2.result.1.now k ≡ at bands (n * m + m * n + k) = λ k.
    tail_at b _ _ c.split_at-2.ensures.back k ∙ tail_at a _ _ c.split_at.ensures.back (b + k)
    ∙ ap (at bands) (rw (e, f) (omega arith)) in
    c.join_narrow_rows-most_below.ensures.joined r x (rw f p) q
    ∙ joined_same t l _ _ _ _ (λ k h. lh (r * n + k) (place_in n m r k p h)) (λ k h. hh (r * m + k)) x q
