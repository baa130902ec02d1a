-- All rows of a quarter as one list.
use Rattle.std.proofs.Common.{◌≡◌, ◌≢◌, ℕ, zero, suc, ◌+◌, ◌-◌, ◌*◌, ◌/◌, ◌%◌, ◌<◌, ◌≤◌, min, ℤ, pos, List, length, set, take, drop, arith, sym, refl, ap, ◌∙◌, ◌⊎◌, ⊎_elim, below_more, get_or-set_other, subst}
use Rattle.std.proofs.lemmas.Nat.{div_below, «div-add-mod'»}
use Rattle.std.proofs.lemmas.Grind.{common_steps}
use Rattle.std.proofs.lemmas.Int.{ints}
use Rattle.std.proofs.lemmas.List.{get_or-take}
use borrow.Rule.Slice.PartMut.{put_mid}
use Rattle.gfx_dwt.specs.declared.layout.Transform.TheVariants.{Plain}
use Rattle.gfx_dwt.specs.declared.layout.Scale.{Scale}
use Rattle.gfx_dwt.specs.Joining.{even, joined, lowered}
use Rattle.gfx_dwt.specs.Lifting.{even_of, odd_of}
use Rattle.gfx_dwt.specs.Narrow.{AreSmall}
use Rattle.gfx_dwt.specs.Place.{high_size, line_size, low_size}
use Rattle.gfx_dwt.specs.Ranges.{AllWithin, Within, at}
use Rattle.gfx_dwt.specs.Samples.{cell}
use Rattle.gfx_dwt.proofs.Edges.{by_parity, edged_inside, even_inside, is_odd, joined_even, joined_odd, plain_same}
use Rattle.gfx_dwt.proofs.NarrowLines.{even_of_same}
use Rattle.gfx_dwt.proofs.Planes.{place_in}
use Rattle.gfx_dwt.proofs.Same.{inside_or_not, within_more}
use Rattle.gfx_dwt.proofs.Small.{small_even}
use Rattle.gfx_dwt.proofs.Strips.{earlier_row, mid_within, strip_at}

-- what holds of each row and column holds of each place
by_cells : (P : ℕ → Type 0) (w h : ℕ) → ((r c : ℕ) → r < h → c < w → P (r * w + c)) → (k : ℕ) → k < h * w → P k
by_cells P zero h each k p = absurd (omega arith)
by_cells P (suc w) h each k p =
    let i : k / suc w * suc w + k % suc w ≡ k = «div-add-mod'» k (suc w) in
    let row : k / suc w < h = div_below k (suc w) h (omega arith) (omega arith) in
    let col : k % suc w < suc w = omega arith in
    subst P i (each (k / suc w) (k % suc w) row col)

-- places of two columns are apart
columns_apart : (w r c i k : ℕ) → c < w → k < w → k ≢ c → i * w + k ≢ r * w + c
columns_apart w r c i k p q other =
    ⊎_elim
    (λ h. let before = earlier_row w i r k h q in omega (arith, before))
    (λ h.
    ⊎_elim
    (λ d. let before = earlier_row w r i c d p in omega (arith, before))
    (λ d.
    let same : i ≡ r = omega arith in
    let row : i * w ≡ r * w = ap (λ n. n * w) same in
    omega (arith, row, other))
    (inside_or_not r i))
    (inside_or_not i r)

-- a column gets one number more, and of each there holds what shall
pub column_put : (P : ℕ → ℤ → Type 0) (w r c place : ℕ) (xs : List ℤ) (v : ℤ) → c < w → place ≡ r * w + c → place < length xs → P r v → ((i : ℕ) → i < r → P i (cell w xs i c)) → (i : ℕ) → i < r + 1 → P i (cell w (set xs place v) i c)
column_put P w r c place xs v p e fits here before =
    below_more (λ i. P i (cell w (set xs place v) i c)) r
    (λ i h.
    let first = earlier_row w i r c h p in
    let apart : i * w + c ≢ place = omega (arith, first) in
    let same : cell w (set xs place v) i c ≡ cell w xs i c = get_or-set_other xs place (i * w + c) v (pos 0) apart in
    rw same (before i h))
    (let same : cell w (set xs place v) r c ≡ v = grind (arith, common_steps) in rw same here)

-- the other columns stay
pub column_kept : (w r c place : ℕ) (xs : List ℤ) (v : ℤ) → c < w → place ≡ r * w + c → (i k : ℕ) → k < w → k ≢ c → cell w (set xs place v) i k ≡ cell w xs i k
column_kept w r c place xs v p e i k q other =
    let apart = columns_apart w r c i k p q other in
    let away : i * w + k ≢ place = omega (arith, apart) in
    get_or-set_other xs place (i * w + k) v (pos 0) away

equal_or_not : (n m : ℕ) → (n ≡ m) ⊎ (n ≢ m)
equal_or_not n m = grind arith

-- one column is within a bound, and the others within another
pub columns_within : (w h c a b bound : ℕ) (xs : List ℤ) → a ≤ bound → b ≤ bound → ((r : ℕ) → r < h → Within a (cell w xs r c)) → ((r k : ℕ) → r < h → k < w → k ≢ c → Within b (cell w xs r k)) → (k : ℕ) → k < h * w → Within bound (at xs k)
columns_within w h c a b bound xs first second one others =
    by_cells (λ k. Within bound (at xs k)) w h
    (λ r k p q.
    ⊎_elim
    (λ e. rw e (within_more a bound _ first (one r p)))
    (λ d. within_more b bound _ second (others r k p q d))
    (equal_or_not k c))

-- an even sample of places that are cut out, each but the first with the one before it
pub cut_even : (n : ℕ) (low high : List ℤ) (k : ℕ) → k < n → even_of Plain (at (take n (drop 1 low)) k) (at (take n high) k) (at (take n (drop 1 high)) k) ≡ even_of Plain (at low (1 + k)) (at high k) (at high (1 + k))
cut_even n low high k h =
    even_of_same Plain _ _ _ _ _ _ _ refl (strip_at 1 n low k h) (get_or-take n high k (pos 0) h) (strip_at 1 n high k h)

-- an even sample that isn't the first of its row stands where all but the first of all were written
pub inner_even : (w h : ℕ) (old written evens : List ℤ) → length old ≡ h * w + 1 → length written ≡ h * w - 1 → ((r k : ℕ) → 0 < k → k < w → cell w evens r k ≡ cell w (put_mid 1 (h * w - 1) old written) r k) → (r k : ℕ) → r < h → 0 < k → k < w → cell w evens r k ≡ at written (r * w + (k - 1))
inner_even w h old written evens e f others r k p some q =
    let i : r * w + k ≡ 1 + (r * w + (k - 1)) = omega arith in
    let inside = place_in w h r k p q in
    others r k some q ∙ ap (at (put_mid 1 (h * w - 1) old written)) i ∙ mid_within 1 (h * w - 1) old written (r * w + (k - 1)) (omega (arith, f, inside)) (omega (arith, e))

-- the even samples of all rows, from all but the first of all and the first of each row
pub flat_even : (w h : ℕ) (low high written evens : List ℤ) → ((k : ℕ) → k < h * w - 1 → at written k ≡ even_of Plain (at low (1 + k)) (at high k) (at high (1 + k))) → ((r : ℕ) → r < h → cell w evens r 0 ≡ even_of Plain (cell w low r 0) (cell w high r 0) (cell w high r 0)) → ((r k : ℕ) → r < h → 0 < k → k < w → cell w evens r k ≡ at written (r * w + (k - 1))) → (r k : ℕ) → r < h → k < w → cell w evens r k ≡ lowered Plain (cell w low r) (cell w high r) k
unfolding lowered
flat_even w h low high written evens all first inner r k p q =
    ⊎_elim
    (λ e. rw e (first r p))
    (λ d.
    let i : 1 + (r * w + (k - 1)) ≡ r * w + k = omega (arith, d) in
    let inside = place_in w h r k p q in
    inner r k p (omega (arith, d)) q ∙ even_of_same Plain _ _ _ _ _ _ _ (all (r * w + (k - 1)) (omega (arith, d, inside))) (ap (at low) i) refl (ap (at high) i))
    (equal_or_not k 0)

pub lowered_small : (w : ℕ) (low high : List ℤ) → AreSmall low high → (r k : ℕ) → Within 16382 (lowered Plain (cell w low r) (cell w high r) k)
unfolding lowered
lowered_small w low high small r k = small_even Plain low high small (r * w + k) (r * w + (k - 1)) (r * w + k)

-- what is behind the places of all rows is put there
pub put_behind : (n : ℕ) (xs : List ℤ) (v : ℤ) (k : ℕ) → k < n → at (set xs n v) k ≡ at xs k
put_behind n xs v k h = let apart : k ≢ n = omega arith in get_or-set_other xs n k v (pos 0) apart

-- all rows are within a bound, and so with nought behind them
pub ended_within : (w h bound : ℕ) (xs : List ℤ) → length xs ≡ h * w + 1 → ((r k : ℕ) → r < h → k < w → Within bound (cell w (set xs (h * w) (pos 0)) r k)) → AllWithin bound (set xs (h * w) (pos 0))
ended_within w h bound xs e all k p =
    let done : List ℤ = set xs (h * w) (pos 0) in
    let nought : Within bound (pos 0) = record { low = omega (arith, ints); high = omega (arith, ints) } in
    ⊎_elim
    (λ q. by_cells (λ k. Within bound (at done k)) w h all k q)
    (λ q.
    let long : length done ≡ length xs = grind (arith, common_steps) in
    let i : k ≡ h * w = omega (arith, q, p, long, e) in
    let end : at done (h * w) ≡ pos 0 = grind (arith, common_steps, e) in
    rw (i, end) nought)
    (inside_or_not k (h * w))

-- the rows of pairs of a quarter are its joined rows
flat_rows : (l : Scale) (n h : ℕ) (low high evens odds out : List ℤ) → n ≡ low_size Plain l → n ≡ high_size Plain l → ((r k : ℕ) → r < h → k < n → cell n evens r k ≡ lowered Plain (cell n low r) (cell n high r) k) → ((r k : ℕ) → r < h → k < n → cell n odds r k ≡ odd_of Plain (cell n high r k) (cell n evens r k) (cell n evens r (min (k + 1) (n - 1)))) → ((k : ℕ) → k < h * n → at out (2 * k) ≡ at evens k) → ((k : ℕ) → k < h * n → at out (2 * k + 1) ≡ at odds k) → (r c : ℕ) → r < h → c < n + n → cell (n + n) out r c ≡ joined Plain l (cell n low r) (cell n high r) c
flat_rows l n h low high evens odds out e f even_is odd_is two three r c p =
    let lows : ℕ → ℤ = cell n low r in
    let highs : ℕ → ℤ = cell n high r in
    let is : (k : ℕ) → k < n → cell n evens r k ≡ even Plain l lows highs k = λ k q. even_is r k p q ∙ sym (even_inside Plain l lows highs k (omega (arith, f))) in
    by_parity (λ c. cell (n + n) out r c ≡ joined Plain l lows highs c) (n + n)
    (λ k q.
    let inside : k < n = omega arith in
    let i : r * (n + n) + 2 * k ≡ 2 * (r * n + k) = omega arith in
    ap (at out) i ∙ two (r * n + k) (place_in n h r k p inside) ∙ is k inside ∙ sym (joined_even Plain l lows highs k))
    (λ k q.
    let inside : k < n = omega arith in
    let i : r * (n + n) + (2 * k + 1) ≡ 2 * (r * n + k) + 1 = omega arith in
    ap (at out) i ∙ three (r * n + k) (place_in n h r k p inside)
    ∙ is_odd Plain l lows highs k _ _ _ _ (odd_is r k p inside) (sym (edged_inside Plain l highs k (omega (arith, f)))) (is k inside)
    (is (min (k + 1) (n - 1)) (omega arith) ∙ ap (λ m. even Plain l lows highs (min (k + 1) (m - 1))) e)
    ∙ sym (joined_odd Plain l lows highs k))
    c

pub flat_joined : (l : Scale) (n h : ℕ) (low high evens odds out : List ℤ) → n ≡ low_size Plain l → ((r k : ℕ) → r < h → k < n → cell n evens r k ≡ lowered Plain (cell n low r) (cell n high r) k) → ((r k : ℕ) → r < h → k < n → cell n odds r k ≡ odd_of Plain (cell n high r k) (cell n evens r k) (cell n evens r (min (k + 1) (n - 1)))) → ((k : ℕ) → k < h * n → at out (2 * k) ≡ at evens k) → ((k : ℕ) → k < h * n → at out (2 * k + 1) ≡ at odds k) → (r c : ℕ) → r < h → c < line_size Plain l → cell (line_size Plain l) out r c ≡ joined Plain l (cell (low_size Plain l) low r) (cell (high_size Plain l) high r) c
flat_joined l n h low high evens odds out e even_is odd_is two three r c p q =
    let f : n ≡ high_size Plain l = e ∙ plain_same l in
    rw (sym e) (flat_rows l n h low high evens odds out e f even_is odd_is two three r c p (omega (arith, e, f)))

-- pairs are within a bound where both of each are
pub pairs_within : (n bound : ℕ) (evens odds out : List ℤ) → length out ≡ 2 * n → ((k : ℕ) → k < n → Within bound (at evens k)) → ((k : ℕ) → k < n → Within bound (at odds k)) → ((k : ℕ) → k < n → at out (2 * k) ≡ at evens k) → ((k : ℕ) → k < n → at out (2 * k + 1) ≡ at odds k) → AllWithin bound out
pairs_within n bound evens odds out e one other two three k h =
    by_parity (λ k. Within bound (at out k)) (2 * n)
    (λ j p. let i : j < n = omega arith in rw (two j i) (one j i))
    (λ j p. let i : j < n = omega arith in rw (three j i) (other j i))
    k (omega (arith, e))
