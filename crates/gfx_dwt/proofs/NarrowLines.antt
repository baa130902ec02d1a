-- A line of its halves, in steps.
use Rattle.std.proofs.Common.{◌≡◌, ℕ, ◌+◌, ◌-◌, ◌*◌, ◌/◌, ◌<◌, ◌≤◌, min, lit≤, ℤ, List, length, set, arith, sym, refl, ap, ◌∙◌, ⊎_elim}
use Rattle.gfx_dwt.specs.declared.layout.Transform.{Transform}
use Rattle.gfx_dwt.specs.declared.layout.Transform.TheVariants.{Plain, Reduced}
use Rattle.gfx_dwt.specs.declared.layout.Scale.{Scale}
use Rattle.gfx_dwt.specs.declared.layout.Scale.TheVariants.{First, Second, Third}
use Rattle.gfx_dwt.specs.Joining.{behind, edged, even, joined, odd}
use Rattle.gfx_dwt.specs.Lifting.{even_of, odd_of}
use Rattle.gfx_dwt.specs.Place.{high_size, line_size, low_size}
use Rattle.gfx_dwt.specs.Narrow.{AreSmall}
use Rattle.gfx_dwt.specs.Ranges.{AllWithin, Within, at}
use Rattle.gfx_dwt.specs.Samples.{cell}
use Rattle.gfx_dwt.proofs.Planes.{cells_within}
use Rattle.gfx_dwt.proofs.Small.{small_row_even, small_row_high}
use Rattle.gfx_dwt.proofs.Edges.{by_parity, edged_behind, edged_inside, high_le_low, high_some, is_even, is_odd, joined_even, joined_odd}
use Rattle.gfx_dwt.proofs.Same.{edged_within, inside_or_not}
use Rattle.gfx_dwt.proofs.Strips.{mid_below, mid_within}
use Rattle.std.proofs.lemmas.Grind.{common_steps}
use borrow.Rule.Slice.PartMut.{put_mid}

-- a high half with what stands in front of it and behind its end
abbrev pub AreEdges : Transform → Scale → (ℕ → ℤ) → (ℕ → ℤ) → Type 0
AreEdges t l high edges = (k : ℕ) → k < low_size t l + 1 → edges k ≡ edged t l high (k - 1)

pub edges_within : (t : Transform) (l : Scale) (high edges : ℕ → ℤ) → ((k : ℕ) → k < high_size t l → Within 8191 (high k)) → AreEdges t l high edges → (k : ℕ) → k < low_size t l + 1 → Within 8191 (edges k)
edges_within t l high edges small are k h = rw (are k h) (edged_within t l 8191 high small (k - 1))

-- places behind the first of them
pub behind_first : (places out written : List ℤ) (v : ℤ) (n : ℕ) → length places < length out → v ≡ at places 0 → written ≡ places → (k : ℕ) → k < length places + 1 → at (put_mid 1 n (set out 0 v) written) k ≡ at places (k - 1)
behind_first places out written v n fits e same k h =
    let long : 1 ≤ length (set out 0 v) = grind (arith, common_steps) in
    ⊎_elim
    (λ p.
    let i : k ≡ 0 = omega arith in
    let first : at (set out 0 v) 0 ≡ v = grind (arith, common_steps) in
    rw i (mid_below 1 n (set out 0 v) written 0 (omega arith) long ∙ first ∙ e))
    (λ p.
    let i : 1 + (k - 1) ≡ k = omega arith in
    ap (at (put_mid 1 n (set out 0 v) written)) (sym i) ∙ mid_within 1 n (set out 0 v) written (k - 1) (let inside : k - 1 < length places = omega arith in rw same inside) long ∙ ap (λ xs. at xs (k - 1)) same)
    (inside_or_not k 1)

pub edge_is : (t : Transform) (l : Scale) (high written edges : List ℤ) → length high ≡ high_size t l → ((k : ℕ) → k < length high + 1 → at written k ≡ at high (k - 1)) → ((k : ℕ) → k < length high + 1 → at edges k ≡ at written k) → (last : ℤ) → last ≡ behind t l (at high (length high - 1)) → ((k : ℕ) → length high + 1 ≤ k → k < low_size t l + 1 → at edges k ≡ last) → AreEdges t l (at high) (at edges)
edge_is t l high written edges e front kept last is end k h =
    let some = high_some t l in
    ⊎_elim
    (λ p. kept k p ∙ front k p ∙ sym (edged_inside t l (at high) (k - 1) (omega (arith, e))))
    (λ p. end k p h ∙ is ∙ ap (λ n. behind t l (at high (n - 1))) e ∙ sym (edged_behind t l (at high) (k - 1) (omega (arith, e))))
    (inside_or_not k (length high + 1))

-- the even samples, and the last of them again
pub record AreEvens (t : Transform) (l : Scale) (low high evens : ℕ → ℤ) : Type 0 where
  pub each : (k : ℕ) → k < low_size t l → evens k ≡ even t l low high k
  pub last : evens (low_size t l) ≡ even t l low high (low_size t l - 1)

-- an even sample that is made of its neighbours
pub next_even : (t : Transform) (l : Scale) (low high edges : ℕ → ℤ) → AreEdges t l high edges → (k : ℕ) → k < low_size t l → even_of t (low k) (edges k) (edges (k + 1)) ≡ even t l low high k
next_even t l low high edges are k h =
    let i : k + 1 - 1 ≡ k = omega arith in
    is_even t l low high k _ _ _ _ refl refl (are k (omega arith)) (are (k + 1) (omega arith) ∙ ap (edged t l high) i)

pub evens_are : (t : Transform) (l : Scale) (low high edges evens : ℕ → ℤ) → AreEdges t l high edges → ((k : ℕ) → k < low_size t l → evens k ≡ even_of t (low k) (edges k) (edges (k + 1))) → evens (low_size t l) ≡ evens (low_size t l - 1) → AreEvens t l low high evens
evens_are t l low high edges evens are each last =
    let some = high_some t l in
    let le = high_le_low t l in
    let is : (k : ℕ) → k < low_size t l → evens k ≡ even t l low high k = λ k h. each k h ∙ next_even t l low high edges are k h in
    record { each = is; last = last ∙ is (low_size t l - 1) (omega arith) }

pub evens_within : (t : Transform) (l : Scale) (low high evens : ℕ → ℤ) → ((k : ℕ) → k < low_size t l → Within 16382 (even t l low high k)) → AreEvens t l low high evens → (k : ℕ) → k < low_size t l + 1 → Within 16382 (evens k)
evens_within t l low high evens small are k h =
    let some = high_some t l in
    let le = high_le_low t l in
    ⊎_elim
    (λ p. rw (are.each k p) (small k p))
    (λ p. let i : k ≡ low_size t l = omega arith in rw i (rw are.last (small (low_size t l - 1) (omega arith))))
    (inside_or_not k (low_size t l))

-- the even sample behind an odd one
even_after : (t : Transform) (l : Scale) (low high evens : ℕ → ℤ) → AreEvens t l low high evens → (k : ℕ) → k < low_size t l → evens (k + 1) ≡ even t l low high (min (k + 1) (low_size t l - 1))
even_after t l low high evens are k h =
    ⊎_elim
    (λ p. are.each (k + 1) p ∙ ap (even t l low high) (omega arith))
    (λ p. ap evens (omega arith) ∙ are.last ∙ ap (even t l low high) (omega arith))
    (inside_or_not (k + 1) (low_size t l))

-- a line is its even and its odd samples
pub line_of : (t : Transform) (l : Scale) (low high edges evens out : ℕ → ℤ) → AreEdges t l high edges → AreEvens t l low high evens → ((k : ℕ) → 2 * k < line_size t l → out (2 * k) ≡ evens k) → ((k : ℕ) → 2 * k + 1 < line_size t l → out (2 * k + 1) ≡ odd_of t (edges (k + 1)) (evens k) (evens (k + 1))) → (k : ℕ) → k < line_size t l → out k ≡ joined t l low high k
line_of t l low high edges evens out borders are two three =
    let le = high_le_low t l in
    by_parity (λ k. out k ≡ joined t l low high k) (line_size t l)
    (λ n h. two n h ∙ are.each n (omega arith) ∙ sym (joined_even t l low high n))
    (λ n h.
    let inside : n < low_size t l = omega arith in
    let i : n + 1 - 1 ≡ n = omega arith in
    is_odd t l low high n _ _ _ _ (three n h) (borders (n + 1) (omega arith) ∙ ap (edged t l high) i) (are.each n inside) (even_after t l low high evens are n inside)
    ∙ sym (joined_odd t l low high n))

-- a line is its pairs, and one even sample more where its width is odd
pub line_is : (t : Transform) (l : Scale) (low high edges : ℕ → ℤ) (evens odds pairs out : List ℤ) (count : ℕ) → count ≡ line_size t l / 2 → AreEdges t l high edges → AreEvens t l low high (at evens) → ((k : ℕ) → k < count → at odds k ≡ odd_of t (edges (k + 1)) (at evens k) (at evens (k + 1))) → ((k : ℕ) → k < count → at pairs (2 * k) ≡ at evens k) → ((k : ℕ) → k < count → at pairs (2 * k + 1) ≡ at odds k) → ((k : ℕ) → k < 2 * count → at out k ≡ at pairs k) → (2 * count < line_size t l → at out (2 * count) ≡ at evens (count)) → (k : ℕ) → k < line_size t l → at out k ≡ joined t l low high k
line_is t l low high edges evens odds pairs out count e borders are odd two three kept last =
    line_of t l low high edges (at evens) (at out) borders are
    (λ n h.
    ⊎_elim
    (λ p. kept (2 * n) (omega arith) ∙ two n p)
    (λ p.
    let i : n ≡ count = omega (arith, e) in
    ap (λ j. at out (2 * j)) i ∙ last (omega (arith, e)) ∙ ap (at evens) (sym i))
    (inside_or_not n count))
    (λ n h.
    let there : n < count = omega (arith, e) in
    kept (2 * n + 1) (omega arith) ∙ three n there ∙ odd n there)

-- all rows of a quarter
pub edge_rows_within : (t : Transform) (l : Scale) (rows : ℕ) (low high edges : List ℤ) → length high ≡ rows * high_size t l → length edges ≡ rows * (low_size t l + 1) → AreSmall low high → ((r : ℕ) → r < rows → AreEdges t l (cell (high_size t l) high r) (cell (low_size t l + 1) edges r)) → AllWithin 8191 edges
edge_rows_within t l rows low high edges e f small are =
    cells_within (low_size t l + 1) rows 8191 edges f
    (λ r k p h. edges_within t l _ _ (small_row_high (high_size t l) rows low high e small r p) (are r p) k h)

pub even_rows_within : (t : Transform) (l : Scale) (rows : ℕ) (low high evens : List ℤ) → length low ≡ rows * low_size t l → length high ≡ rows * high_size t l → length evens ≡ rows * (low_size t l + 1) → AreSmall low high → ((r : ℕ) → r < rows → AreEvens t l (cell (low_size t l) low r) (cell (high_size t l) high r) (cell (low_size t l + 1) evens r)) → AllWithin 16382 evens
even_rows_within t l rows low high evens d e f small are =
    cells_within (low_size t l + 1) rows 16382 evens f
    (λ r k p h. evens_within t l _ _ _ (small_row_even t l rows low high d e small r p) (are r p) k h)

-- samples that are made of the same places
pub even_of_same : (t : Transform) (z a b h a' b' h' : ℤ) → z ≡ even_of t a b h → a ≡ a' → b ≡ b' → h ≡ h' → z ≡ even_of t a' b' h'
even_of_same t z a b h a' b' h' e p q r = e ∙ rw (p, q, r) refl

pub odd_of_same : (t : Transform) (z h a b h' a' b' : ℤ) → z ≡ odd_of t h a b → h ≡ h' → a ≡ a' → b ≡ b' → z ≡ odd_of t h' a' b'
odd_of_same t z h a b h' a' b' e p q r = e ∙ rw (p, q, r) refl

-- the spare memory is large enough
pub spare_fits : (t : Transform) (l : Scale) → 2 * (low_size t l * (low_size t l + 1)) ≤ line_size t l * line_size t l
spare_fits Plain First = lit≤ tt
spare_fits Plain Second = lit≤ tt
spare_fits Plain Third = lit≤ tt
spare_fits Reduced First = lit≤ tt
spare_fits Reduced Second = lit≤ tt
spare_fits Reduced Third = lit≤ tt

pub spare_high : (t : Transform) (l : Scale) → 2 * (high_size t l * (low_size t l + 1)) ≤ 2 * (low_size t l * (low_size t l + 1))
spare_high Plain First = lit≤ tt
spare_high Plain Second = lit≤ tt
spare_high Plain Third = lit≤ tt
spare_high Reduced First = lit≤ tt
spare_high Reduced Second = lit≤ tt
spare_high Reduced Third = lit≤ tt
