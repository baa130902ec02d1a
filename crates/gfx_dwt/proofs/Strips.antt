-- A plane that is written row by row.
use Rattle.std.proofs.Common.{◌≡◌, ℕ, zero, suc, ◌+◌, ◌-◌, ◌*◌, ◌<◌, ◌≤◌, ℤ, pos, List, ◌++◌, length, take, drop, arith, ap, sym, refl, ◌∙◌, below_more, inl, inr, length-append, length-drop, length-take}
use Rattle.std.proofs.lemmas.List.{get_or_append_left, get_or-append_right, get_or-take, get_or-drop}
use Rattle.std.proofs.lemmas.Nat.{row_fits}
use borrow.Rule.Slice.PartMut.{put_mid}
use lib.ListN.{replicate}
use Rattle.gfx_dwt.specs.Ranges.{at}
use Rattle.std.proofs.Math.ListN.{get_or-eq_default}
use Rattle.gfx_dwt.specs.Samples.{cell}
use Rattle.gfx_dwt.proofs.Same.{inside_or_not}

pub mid_below : (a k : ℕ) (xs ys : List ℤ) (n : ℕ) → n < a → a ≤ length xs → at (put_mid a k xs ys) n ≡ at xs n
mid_below a k xs ys n h l =
    get_or_append_left (take a xs) (ys ++ drop k (drop a xs)) (pos 0) n (omega (arith, length-take {A = ℤ})) ∙ get_or-take a xs n (pos 0) h

pub mid_within : (a k : ℕ) (xs ys : List ℤ) (n : ℕ) → n < length ys → a ≤ length xs → at (put_mid a k xs ys) (a + n) ≡ at ys n
mid_within a k xs ys n h l =
    let e : a + n - a ≡ n = omega arith in
    get_or-append_right (take a xs) (ys ++ drop k (drop a xs)) a (a + n) (pos 0) (omega (arith, length-take {A = ℤ})) (omega arith)
    ∙ rw e (get_or_append_left ys (drop k (drop a xs)) (pos 0) n h)

-- a part gives way to one of its length
pub put_long : (a k : ℕ) (xs ys : List ℤ) → a + k ≤ length xs → length ys ≡ k → length (put_mid a k xs ys) ≡ length xs
put_long a k xs ys h e = omega (arith, h, e, length-append {A = ℤ}, length-take {A = ℤ}, length-drop {A = ℤ})

-- a place of an earlier row stands before a later row
pub earlier_row : (w i r c : ℕ) → i < r → c < w → i * w + c < r * w
earlier_row w i r c h k = omega (arith, row_fits i w r w h (omega arith))

-- rows before the one that is written stay
pub row_kept : (w r k : ℕ) (xs ys : List ℤ) → r * w + w ≤ length xs → (i c : ℕ) → i < r → c < w → cell w (put_mid (r * w) k xs ys) i c ≡ cell w xs i c
row_kept w r k xs ys fits i c h l = mid_below (r * w) k xs ys (i * w + c) (earlier_row w i r c h l) (omega arith)

-- the row that is written
pub row_new : (w r k : ℕ) (xs ys : List ℤ) → r * w + w ≤ length xs → length ys ≡ w → (c : ℕ) → c < w → cell w (put_mid (r * w) k xs ys) r c ≡ at ys c
row_new w r k xs ys fits len c l = mid_within (r * w) k xs ys c (omega arith) (omega arith)

-- one row more is written
pub row_put : (w r k : ℕ) (xs ys : List ℤ) (f : ℕ → ℕ → ℤ) → r * w + w ≤ length xs → length ys ≡ w → ((i c : ℕ) → i < r → c < w → cell w xs i c ≡ f i c) → ((c : ℕ) → c < w → at ys c ≡ f r c) → (i c : ℕ) → i < r + 1 → c < w → cell w (put_mid (r * w) k xs ys) i c ≡ f i c
row_put w r k xs ys f fits len before here i c h l =
    below_more (λ j. cell w (put_mid (r * w) k xs ys) j c ≡ f j c) r
    (λ j p. row_kept w r k xs ys fits j c p l ∙ before j c p l)
    (row_new w r k xs ys fits len c l ∙ here c l)
    i h

-- the same of some places of each row, by number
pub row_put_at : (w r k : ℕ) (xs ys : List ℤ) (Some : ℕ → Type 0) (place : ℕ → ℕ) (f : ℕ → ℕ → ℤ) → r * w + w ≤ length xs → length ys ≡ w → ((n : ℕ) → Some n → place n < w) → ((i n : ℕ) → i < r → Some n → cell w xs i (place n) ≡ f i n) → ((n : ℕ) → Some n → at ys (place n) ≡ f r n) → (i n : ℕ) → i < r + 1 → Some n → cell w (put_mid (r * w) k xs ys) i (place n) ≡ f i n
row_put_at w r k xs ys Some place f fits len inside before here i n h s =
    below_more (λ j. cell w (put_mid (r * w) k xs ys) j (place n) ≡ f j n) r
    (λ j p. row_kept w r k xs ys fits j (place n) p (inside n s) ∙ before j n p s)
    (row_new w r k xs ys fits len (place n) (inside n s) ∙ here n s)
    i h

-- two places of each row have the same number
pub row_put_twice : (w r k : ℕ) (xs ys : List ℤ) (a b : ℕ) → r * w + w ≤ length xs → length ys ≡ w → a < w → b < w → ((i : ℕ) → i < r → cell w xs i a ≡ cell w xs i b) → at ys a ≡ at ys b → (i : ℕ) → i < r + 1 → cell w (put_mid (r * w) k xs ys) i a ≡ cell w (put_mid (r * w) k xs ys) i b
row_put_twice w r k xs ys a b fits len p q before here =
    below_more (λ j. cell w (put_mid (r * w) k xs ys) j a ≡ cell w (put_mid (r * w) k xs ys) j b) r
    (λ j h. row_kept w r k xs ys fits j a h p ∙ before j h ∙ sym (row_kept w r k xs ys fits j b h q))
    (row_new w r k xs ys fits len a p ∙ here ∙ sym (row_new w r k xs ys fits len b q))

pub nought_at : (n k : ℕ) → at (replicate n (pos 0)) k ≡ pos 0
nought_at zero k = refl
nought_at (suc n) zero = refl
nought_at (suc n) (suc k) = nought_at n k

nought_in : (w k : ℕ) (xs : List ℤ) → ((j : ℕ) → at xs j ≡ pos 0) → at (take w xs) k ≡ pos 0
nought_in w k xs h = elim (inside_or_not k w) [ inl p ↦ get_or-take w xs k (pos 0) p ∙ h k | inr p ↦ get_or-eq_default (take w xs) (pos 0) (omega (arith, length-take {A = ℤ})) ]

pub nought_front : (w n k : ℕ) → at (take w (replicate n (pos 0))) k ≡ pos 0
nought_front w n k = nought_in w k (replicate n (pos 0)) (nought_at n)

-- a place of a part of a plane
pub strip_at : (a k : ℕ) (xs : List ℤ) (n : ℕ) → n < k → at (take k (drop a xs)) n ≡ at xs (a + n)
strip_at a k xs n h = get_or-take k (drop a xs) n (pos 0) h ∙ get_or-drop a xs n (pos 0)

-- two rows more are written behind the row s
pub rows_put : (w s k : ℕ) (xs ys : List ℤ) (f : ℕ → ℕ → ℤ) → s * w + 3 * w ≤ length xs → length ys ≡ 3 * w → ((i c : ℕ) → i < s + 1 → c < w → cell w xs i c ≡ f i c) → ((c : ℕ) → c < w → at ys c ≡ f s c) → ((c : ℕ) → c < w → at ys (w + c) ≡ f (s + 1) c) → ((c : ℕ) → c < w → at ys (w + (w + c)) ≡ f (s + 2) c) → (i c : ℕ) → i < s + 3 → c < w → cell w (put_mid (s * w) k xs ys) i c ≡ f i c
rows_put w s k xs ys f fits len before zeroth first second i c h l =
    let P : ℕ → Type 0 = λ j. cell w (put_mid (s * w) k xs ys) j c ≡ f j c in
    let one : (s + 1) * w + c ≡ s * w + (w + c) = omega arith in
    let two : (s + 2) * w + c ≡ s * w + (w + (w + c)) = omega arith in
    let three : s + 1 + 1 ≡ s + 2 = omega arith in
    below_more P (s + 2)
    (rw three at (below_more P (s + 1)
    (below_more P s
    (λ j p. mid_below (s * w) k xs ys (j * w + c) (earlier_row w j s c p l) (omega arith) ∙ before j c (omega arith) l)
    (mid_within (s * w) k xs ys c (omega arith) (omega arith) ∙ zeroth c l))
    (ap (at (put_mid (s * w) k xs ys)) one ∙ mid_within (s * w) k xs ys (w + c) (omega arith) (omega arith) ∙ first c l)))
    (ap (at (put_mid (s * w) k xs ys)) two ∙ mid_within (s * w) k xs ys (w + (w + c)) (omega arith) (omega arith) ∙ second c l)
    i (omega arith)

-- one row more is written behind the row s
pub row_put_last : (w s k : ℕ) (xs ys : List ℤ) (f : ℕ → ℕ → ℤ) → s * w + 2 * w ≤ length xs → length ys ≡ 2 * w → ((i c : ℕ) → i < s + 1 → c < w → cell w xs i c ≡ f i c) → ((c : ℕ) → c < w → at ys c ≡ f s c) → ((c : ℕ) → c < w → at ys (w + c) ≡ f (s + 1) c) → (i c : ℕ) → i < s + 2 → c < w → cell w (put_mid (s * w) k xs ys) i c ≡ f i c
row_put_last w s k xs ys f fits len before zeroth first i c h l =
    let P : ℕ → Type 0 = λ j. cell w (put_mid (s * w) k xs ys) j c ≡ f j c in
    let one : (s + 1) * w + c ≡ s * w + (w + c) = omega arith in
    below_more P (s + 1)
    (below_more P s
    (λ j p. mid_below (s * w) k xs ys (j * w + c) (earlier_row w j s c p l) (omega arith) ∙ before j c (omega arith) l)
    (mid_within (s * w) k xs ys c (omega arith) (omega arith) ∙ zeroth c l))
    (ap (at (put_mid (s * w) k xs ys)) one ∙ mid_within (s * w) k xs ys (w + c) (omega arith) (omega arith) ∙ first c l)
    i (omega arith)
