-- A plane by its rows and columns: bounds, and what a level depends on.
use Rattle.std.proofs.Common.{◌≡◌, ℕ, zero, suc, ◌+◌, ◌-◌, ◌*◌, ◌/◌, ◌%◌, ◌<◌, ◌≤◌, ℤ, pos, List, ◌++◌, length, take, drop, arith, ⊎_elim, zero-add, length-append, length-take, length-drop, ap, refl, ◌∙◌}
use Rattle.std.proofs.lemmas.Nat.{rows, div_below, «div-add-mod'»}
use Rattle.std.proofs.lemmas.Grind.{common_steps}
use Rattle.std.proofs.lemmas.List.{get_or-take, get_or-drop, get_or_append_left, get_or-append_right}
use Rattle.gfx_dwt.specs.declared.layout.Transform.{Transform}
use Rattle.gfx_dwt.specs.declared.layout.Scale.{Scale}
use Rattle.gfx_dwt.specs.Place.{low_size, high_size}
use Rattle.gfx_dwt.specs.Ranges.{Within, AllWithin, at}
use Rattle.std.proofs.lemmas.Int.{ints}
use Rattle.std.proofs.Math.ListN.{get_or-eq_default}
use borrow.Rule.Slice.PartMut.{put_mid, mid_of}
use Rattle.gfx_dwt.specs.Ranges.{IsCoefficient, AllCoefficients}
use Rattle.gfx_dwt.specs.Samples.{cell, column, level_joined, part_joined}
use Rattle.gfx_dwt.proofs.Same.{joined_same, joined_within, within_more, inside_or_not}
use Rattle.gfx_dwt.proofs.Strips.{mid_below, mid_within, strip_at}

-- a place of a plane is within it
pub place_in : (w h r c : ℕ) → r < h → c < w → r * w + c < h * w
place_in w h r c p q = grind (arith, common_steps, rows)

pub column_within : (w h bound : ℕ) (xs : List ℤ) → length xs ≡ h * w → AllWithin bound xs → (c : ℕ) → c < w → (r : ℕ) → r < h → Within bound (column w xs c r)
column_within w h bound xs e all c p r q = all (r * w + c) (omega (arith, place_in w h r c q p))

-- what holds of each row and column of a plane holds of each of its places
pub cells_within : (w h bound : ℕ) (xs : List ℤ) → length xs ≡ h * w → ((r c : ℕ) → r < h → c < w → Within bound (cell w xs r c)) → AllWithin bound xs
cells_within zero h bound xs e each k p = absurd (omega arith)
cells_within (suc w) h bound xs e each k p =
    let i : k / suc w * suc w + k % suc w ≡ k = «div-add-mod'» k (suc w) in
    let row : k / suc w < h = div_below k (suc w) h (omega arith) (omega arith) in
    let col : k % suc w < suc w = omega arith in
    rw i at (each (k / suc w) (k % suc w) row col)

-- a level depends on the places of its quarters alone
pub level_joined_same : (t : Transform) (l : Scale) (ll ll' hl hl' lh lh' hh hh' : ℕ → ℕ → ℤ) → ((r c : ℕ) → r < low_size t l → c < low_size t l → ll r c ≡ ll' r c) → ((r c : ℕ) → r < low_size t l → c < high_size t l → hl r c ≡ hl' r c) → ((r c : ℕ) → r < high_size t l → c < low_size t l → lh r c ≡ lh' r c) → ((r c : ℕ) → r < high_size t l → c < high_size t l → hh r c ≡ hh' r c) → (y x : ℕ) → y < low_size t l + high_size t l → x < low_size t l + high_size t l → level_joined t l ll hl lh hh y x ≡ level_joined t l ll' hl' lh' hh' y x
unfolding level_joined
level_joined_same t l ll ll' hl hl' lh lh' hh hh' p q r s y x h k =
    joined_same t l _ _ _ _
    (λ n b. joined_same t l _ _ _ _ (λ m d. p n m b d) (λ m d. q n m b d) x k)
    (λ n b. joined_same t l _ _ _ _ (λ m d. r n m b d) (λ m d. s n m b d) x k)
    y h

-- a level is within its low quarter's bound and fifteen times that of the others
pub level_joined_within : (t : Transform) (l : Scale) (a m : ℕ) (ll hl lh hh : ℕ → ℕ → ℤ) → ((r c : ℕ) → r < low_size t l → c < low_size t l → Within a (ll r c)) → ((r c : ℕ) → r < low_size t l → c < high_size t l → Within m (hl r c)) → ((r c : ℕ) → r < high_size t l → c < low_size t l → Within m (lh r c)) → ((r c : ℕ) → r < high_size t l → c < high_size t l → Within m (hh r c)) → (y x : ℕ) → y < low_size t l + high_size t l → x < low_size t l + high_size t l → Within (a + 15 * m) (level_joined t l ll hl lh hh y x)
unfolding level_joined
level_joined_within t l a m ll hl lh hh p q r s y x h k =
    within_more (a + 3 * m + 3 * (m + 3 * m)) (a + 15 * m) _ (omega arith)
    (joined_within t l (a + 3 * m) (m + 3 * m) _ _
    (λ n b. joined_within t l a m _ _ (λ i d. p n i b d) (λ i d. q n i b d) x k)
    (λ n b. joined_within t l m m _ _ (λ i d. r n i b d) (λ i d. s n i b d) x k)
    y h)

-- places of the parts that a list is split into
pub front_at : (a : ℕ) (xs ys : List ℤ) → ys ≡ take a xs → (k : ℕ) → k < a → at ys k ≡ at xs k
front_at a xs ys e k h = rw e (get_or-take a xs k (pos 0) h)

pub tail_at : (a : ℕ) (xs ys : List ℤ) → ys ≡ drop a xs → (k : ℕ) → at ys k ≡ at xs (a + k)
tail_at a xs ys e k = rw e (get_or-drop a xs k (pos 0))

pub all_more : (a b : ℕ) (xs : List ℤ) → a ≤ b → AllWithin a xs → AllWithin b xs
all_more a b xs h all k p = within_more a b _ h (all k p)

pub coefficients_within : (xs : List ℤ) → AllCoefficients xs → AllWithin 32768 xs
coefficients_within xs all k p =
    let h : IsCoefficient (at xs k) = all k p in
    record { low = omega (arith, ints); high = omega (arith, ints) }

-- behind the end of a list stands nought
pub all_at : (bound : ℕ) (xs : List ℤ) → AllWithin bound xs → (k : ℕ) → Within bound (at xs k)
all_at bound xs all k =
    ⊎_elim (λ h. all k h) (λ h. rw (get_or-eq_default xs (pos 0) {n = k} h) (record { low = omega (arith, ints); high = omega (arith, ints) })) (inside_or_not k (length xs))

-- a list whose numbers all stand in another
pub places_within : (bound : ℕ) (xs ys : List ℤ) (place : ℕ → ℕ) → ((k : ℕ) → k < length ys → at ys k ≡ at xs (place k)) → AllWithin bound xs → AllWithin bound ys
places_within bound xs ys place same all k h = rw (same k h) (all_at bound xs all (place k))

-- a part of a list is overwritten up to its end
pub put_within : (a k bound most : ℕ) (xs ys : List ℤ) → a ≤ length xs → length ys + a ≡ length xs → length xs ≤ a + k → bound ≤ most → AllWithin bound xs → AllWithin most ys → AllWithin most (put_mid a k xs ys)
put_within a k bound most xs ys l e f h p q i b =
    ⊎_elim
    (λ d. rw (mid_below a k xs ys i d l) (within_more bound most _ h (all_at bound xs p i)))
    (λ d.
    let j : a + (i - a) ≡ i = omega arith in
    ⊎_elim
    (λ g. let here : Within most (at (put_mid a k xs ys) (a + (i - a))) = rw (mid_within a k xs ys (i - a) g l) (q (i - a) g) in rw j at here)
    (λ g. absurd (omega (arith, b, length-append {A = ℤ}, length-take {A = ℤ}, length-drop {A = ℤ})))
    (inside_or_not (i - a) (length ys)))
    (inside_or_not i a)

pub part_joined_within : (t : Transform) (l : Scale) (bound : ℕ) (part : List ℤ) → AllWithin bound part → (y x : ℕ) → y < low_size t l + high_size t l → x < low_size t l + high_size t l → Within (16 * bound) (part_joined t l part y x)
unfolding part_joined
part_joined_within t l bound part all y x h k =
    let p = all_at bound part all in
    within_more (bound + 15 * bound) (16 * bound) _ (omega arith)
    (level_joined_within t l bound bound _ _ _ _ (λ r c _ _. p _) (λ r c _ _. p _) (λ r c _ _. p _) (λ r c _ _. p _) y x h k)

pub part_within : (a k bound : ℕ) (xs : List ℤ) → AllWithin bound xs → AllWithin bound (mid_of a k xs)
part_within a k bound xs all i h =
    let below : i < k = omega (arith, length-take {A = ℤ}) in
    rw (strip_at a k xs i below) (all_at bound xs all (a + i))

-- places of four lists one behind the other
pub first_part : (xs ys : List ℤ) (k : ℕ) → k < length xs → at (xs ++ ys) (0 + k) ≡ at xs k
first_part xs ys k h = rw (zero-add k) (get_or_append_left xs ys (pos 0) k h)

pub behind_part : (a : ℕ) (xs ys : List ℤ) → length xs ≡ a → (k : ℕ) → at (xs ++ ys) (a + k) ≡ at ys k
behind_part a xs ys e k =
    let i : a + k - a ≡ k = omega arith in
    get_or-append_right xs ys a (a + k) (pos 0) e (omega arith) ∙ ap (at ys) i

pub second_part : (a : ℕ) (xs ys zs : List ℤ) → length xs ≡ a → (k : ℕ) → k < length ys → at (xs ++ (ys ++ zs)) (a + k) ≡ at ys k
second_part a xs ys zs e k h = behind_part a xs (ys ++ zs) e k ∙ get_or_append_left ys zs (pos 0) k h

pub third_part : (a b : ℕ) (xs ys zs us : List ℤ) → length xs ≡ a → length ys ≡ b → (k : ℕ) → k < length zs → at (xs ++ (ys ++ (zs ++ us))) (a + b + k) ≡ at zs k
third_part a b xs ys zs us e f k h =
    let i : a + b + k ≡ a + (b + k) = omega arith in
    ap (at (xs ++ (ys ++ (zs ++ us)))) i ∙ behind_part a xs (ys ++ (zs ++ us)) e (b + k) ∙ second_part b ys zs us f k h

pub append_within : (bound : ℕ) (xs ys : List ℤ) → AllWithin bound xs → AllWithin bound ys → AllWithin bound (xs ++ ys)
append_within bound xs ys p q k h =
    ⊎_elim
    (λ d. rw (get_or_append_left xs ys (pos 0) k d) (p k d))
    (λ d. rw (get_or-append_right xs ys (length xs) k (pos 0) refl d) (all_at bound ys q (k - length xs)))
    (inside_or_not k (length xs))
