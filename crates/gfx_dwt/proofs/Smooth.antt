-- Lines and levels whose high half is nought, as they are written.
use Rattle.std.proofs.Common.{◌≡◌, ℕ, ◌+◌, ◌-◌, ◌*◌, ◌/◌, ◌<◌, ◌≤◌, ℤ, pos, ◌+ℤ◌, List, length, arith, lit≤, sym, refl, ap, ◌∙◌, ⊎_elim, below_more}
use borrow.Rule.Slice.PartMut.{put_mid}
use Rattle.gfx_dwt.specs.declared.layout.Transform.{Transform}
use Rattle.gfx_dwt.specs.declared.layout.Transform.TheVariants.{Plain, Reduced}
use Rattle.gfx_dwt.specs.declared.layout.Scale.{Scale}
use Rattle.gfx_dwt.specs.declared.layout.Scale.TheVariants.{First, Second, Third}
use Rattle.gfx_dwt.specs.Joining.{joined}
use Rattle.gfx_dwt.specs.Lifting.{halved}
use Rattle.gfx_dwt.specs.Narrow.{level_of}
use Rattle.gfx_dwt.specs.Place.{high_size, line_size, low_size, low_start, part_start}
use Rattle.gfx_dwt.specs.Ranges.{AllWithin, Within, at}
use Rattle.gfx_dwt.specs.Samples.{cell, column, level_joined}
use Rattle.gfx_dwt.proofs.Edges.{high_le_low, high_some, joined_even, joined_odd}
use Rattle.gfx_dwt.proofs.NarrowLines.{AreEvens, line_is}
use Rattle.gfx_dwt.proofs.NoDetail.{edged_nought, even_smooth, halved_twice, joined_nought, nought, odd_of_nought, odd_smooth}
use Rattle.gfx_dwt.proofs.Planes.{place_in}
use Rattle.gfx_dwt.proofs.Same.{inside_or_not, joined_same}
use Rattle.gfx_dwt.proofs.Strips.{mid_below, mid_within, earlier_row}

-- behind the pairs of a line stands its last even sample
pub smooth_rest : (t : Transform) (l : Scale) (low : ℕ → ℤ) (k : ℕ) → 2 * (low_size t l - 1) ≤ k → k < line_size t l → low (low_size t l - 1) ≡ joined t l low nought k
smooth_rest t l low k p q =
    let le = high_le_low t l in
    let n = low_size t l - 1 in
    ⊎_elim
    (λ h. let e : k ≡ 2 * n = omega arith in rw e (sym (joined_even t l low nought n ∙ even_smooth t l low n)))
    (λ h.
    let e : k ≡ 2 * n + 1 = omega arith in
    rw e (sym (joined_odd t l low nought n ∙ odd_smooth t l low n n (omega arith) ∙ halved_twice t (low n))))
    (inside_or_not k (2 * n + 1))

-- two rows more are written
pub two_rows_put : (w s k : ℕ) (xs ys : List ℤ) (f : ℕ → ℕ → ℤ) → s * w + 2 * w ≤ length xs → length ys ≡ 2 * w → ((i c : ℕ) → i < s → c < w → cell w xs i c ≡ f i c) → ((c : ℕ) → c < w → at ys c ≡ f s c) → ((c : ℕ) → c < w → at ys (w + c) ≡ f (s + 1) c) → (i c : ℕ) → i < s + 2 → c < w → cell w (put_mid (s * w) k xs ys) i c ≡ f i c
two_rows_put w s k xs ys f fits len before zeroth first i c h l =
    let P : ℕ → Type 0 = λ j. cell w (put_mid (s * w) k xs ys) j c ≡ f j c in
    let one : (s + 1) * w + c ≡ s * w + (w + c) = omega arith in
    below_more P (s + 1)
    (below_more P s
    (λ j p. mid_below (s * w) k xs ys (j * w + c) (earlier_row w j s c p l) (omega arith) ∙ before j c p l)
    (mid_within (s * w) k xs ys c (omega arith) (omega arith) ∙ zeroth c l))
    (ap (at (put_mid (s * w) k xs ys)) one ∙ mid_within (s * w) k xs ys (w + c) (omega arith) (omega arith) ∙ first c l)
    i (omega arith)

pub is_even_smooth : (t : Transform) (l : Scale) (low : ℕ → ℤ) (n : ℕ) (z : ℤ) → z ≡ low n → z ≡ joined t l low nought (2 * n)
is_even_smooth t l low n z e = e ∙ sym (joined_even t l low nought n ∙ even_smooth t l low n)

pub is_odd_smooth : (t : Transform) (l : Scale) (low : ℕ → ℤ) (n : ℕ) (z a b : ℤ) → n + 1 < low_size t l → z ≡ halved t (a +ℤ b) → a ≡ low n → b ≡ low (n + 1) → z ≡ joined t l low nought (2 * n + 1)
is_odd_smooth t l low n z a b h e p q = e ∙ rw (p, q) (sym (joined_odd t l low nought n ∙ odd_smooth t l low n (n + 1) (omega arith)))

pub low_le_high : (t : Transform) (l : Scale) → low_size t l ≤ high_size t l + 2
low_le_high Plain First = lit≤ tt
low_le_high Plain Second = lit≤ tt
low_le_high Plain Third = lit≤ tt
low_le_high Reduced First = lit≤ tt
low_le_high Reduced Second = lit≤ tt
low_le_high Reduced Third = lit≤ tt

-- places and the last of them again are small
pub copies_within : (low evens : List ℤ) → 0 < length low → length evens ≡ length low + 1 → AllWithin 16382 low → ((k : ℕ) → k < length low → at evens k ≡ at low k) → at evens (length low) ≡ at low (length low - 1) → AllWithin 16382 evens
copies_within low evens some e all each last k h =
    ⊎_elim
    (λ p. rw (each k p) (all k p))
    (λ p.
    let i : k ≡ length low = omega (arith, e) in
    let small : Within 16382 (at low (length low - 1)) = all (length low - 1) (omega (arith, some)) in
    rw i (rw last small))
    (inside_or_not k (length low))

-- a line whose high half is nought
pub smooth_is : (t : Transform) (l : Scale) (low evens odds pairs out : List ℤ) (count : ℕ) → length low ≡ low_size t l → count ≡ line_size t l / 2 → ((k : ℕ) → k < length low → at evens k ≡ at low k) → at evens (length low) ≡ at low (length low - 1) → ((k : ℕ) → k < count → at odds k ≡ halved t (at evens k +ℤ at evens (k + 1))) → ((k : ℕ) → k < count → at pairs (2 * k) ≡ at evens k) → ((k : ℕ) → k < count → at pairs (2 * k + 1) ≡ at odds k) → ((k : ℕ) → k < 2 * count → at out k ≡ at pairs k) → (2 * count < line_size t l → at out (2 * count) ≡ at evens (count)) → (k : ℕ) → k < line_size t l → at out k ≡ joined t l (at low) nought k
smooth_is t l low evens odds pairs out count e f each last half two three kept end =
    let some = high_some t l in
    let le = high_le_low t l in
    let are : AreEvens t l (at low) nought (at evens) = record {
      each = λ k h. each k (omega (arith, e)) ∙ sym (even_smooth t l (at low) k);
      last = (rw e at last) ∙ sym (even_smooth t l (at low) (low_size t l - 1));
    } in
    line_is t l (at low) nought nought evens odds pairs out count f
    (λ k h. sym (edged_nought t l (k - 1)))
    are
    (λ k h. half k h ∙ sym (odd_of_nought t (at evens k) (at evens (k + 1))))
    two three kept end

-- a level whose bands are nought
pub level_smooth : (t : Transform) (l : Scale) (plane : List ℤ) (ll : ℕ → ℕ → ℤ) (above : List ℤ) → ((k : ℕ) → k < low_start t l → at plane (part_start t l + k) ≡ pos 0) → ((r x : ℕ) → r < low_size t l → x < line_size t l → cell (line_size t l) above r x ≡ joined t l (ll r) nought x) → (y x : ℕ) → y < line_size t l → x < line_size t l → joined t l (column (line_size t l) above x) nought y ≡ level_of t l plane ll y x
unfolding level_of level_joined
level_smooth t l plane ll above none rows y x p q =
    let n = low_size t l in
    let m = high_size t l in
    let s = part_start t l in
    joined_same t l _ _ _ _
    (λ r h. rows r x h q ∙ joined_same t l _ _ _ _ (λ k b. refl) (λ k b. let i = place_in m n r k h b in sym (ap (at plane) (omega arith) ∙ none (0 + (r * m + k)) (omega arith))) x q)
    (λ r h. sym (joined_nought t l _ _
    (λ k b. let i = place_in n m r k h b in ap (at plane) (omega arith) ∙ none (n * m + (r * n + k)) (omega arith))
    (λ k b. let i = place_in m m r k h b in ap (at plane) (omega arith) ∙ none (n * m + m * n + (r * m + k)) (omega arith)) x q))
    y p
