-- Lines and levels whose high half is nought.
use Rattle.std.proofs.Common.{◌≡◌, ℕ, ◌+◌, ◌-◌, ◌*◌, ◌<◌, ◌≤◌, min, ℤ, pos, negsuc, ◌+ℤ◌, List, arith, refl, ◌∙◌, ⊎_elim}
use Rattle.std.proofs.lemmas.Int.{ints}
use Rattle.gfx_dwt.specs.declared.layout.Transform.{Transform}
use Rattle.gfx_dwt.specs.declared.layout.Transform.TheVariants.{Plain, Reduced}
use Rattle.gfx_dwt.specs.declared.layout.Scale.{Scale}
use Rattle.gfx_dwt.specs.declared.layout.Scale.TheVariants.{First, Second, Third}
use Rattle.gfx_dwt.specs.declared.layout.Band.{Band}
use Rattle.gfx_dwt.specs.declared.layout.Band.TheVariants.{Hl1, Lh1, Hh1, Hl2, Lh2, Hh2, Hl3, Lh3, Hh3, Ll3}
use Rattle.gfx_dwt.specs.Place.{coefficient, low_size, high_size, low_start, part_start, start}
use Rattle.gfx_dwt.specs.Lifting.{halved, even_of, odd_of}
use Rattle.gfx_dwt.specs.Joining.{behind, edged, lowered, even, odd, joined}
use Rattle.gfx_dwt.specs.Ranges.{Within, at}
use Rattle.gfx_dwt.specs.Samples.{level_joined, sample, second_level, third_level}
use Rattle.gfx_dwt.proofs.Levels.{AreBandsOf, first_bands, nested, second_bands, third_bands}
use Rattle.gfx_dwt.proofs.Edges.{by_parity, edged_inside, edged_behind, joined_even, joined_odd}
use Rattle.gfx_dwt.proofs.Planes.{place_in}
use Rattle.gfx_dwt.proofs.Same.{inside_or_not, joined_within, joined_same}

-- a high half of noughts
abbrev pub nought : ℕ → ℤ
nought n = pos 0

pub nought_of_within : (z : ℤ) → Within 0 z → z ≡ pos 0
nought_of_within (pos n) w = omega (arith, ints, w.high)
nought_of_within (negsuc n) w = absurd (omega (arith, ints, w.low))

pub within_of_nought : (b : ℕ) (z : ℤ) → z ≡ pos 0 → Within b z
within_of_nought b z e = rw e (record { low = omega (arith, ints); high = omega (arith, ints) })

behind_nought : (t : Transform) (l : Scale) → behind t l (pos 0) ≡ pos 0
unfolding behind
behind_nought Plain l = refl
behind_nought Reduced First = refl
behind_nought Reduced Second = refl
behind_nought Reduced Third = refl

pub edged_nought : (t : Transform) (l : Scale) (n : ℕ) → edged t l nought n ≡ pos 0
edged_nought t l n =
    ⊎_elim
    (λ h. edged_inside t l nought n h)
    (λ h. edged_behind t l nought n h ∙ behind_nought t l)
    (inside_or_not n (high_size t l))

pub even_of_nought : (t : Transform) (z : ℤ) → even_of t z (pos 0) (pos 0) ≡ z
unfolding halved
even_of_nought Plain z = omega (arith, ints)
even_of_nought Reduced z = omega (arith, ints)

pub odd_of_nought : (t : Transform) (x y : ℤ) → odd_of t (pos 0) x y ≡ halved t (x +ℤ y)
odd_of_nought t x y = omega (arith, ints)

pub halved_twice : (t : Transform) (z : ℤ) → halved t (z +ℤ z) ≡ z
unfolding halved
halved_twice Plain (pos n) = omega (arith, ints)
halved_twice Plain (negsuc n) = omega (arith, ints)
halved_twice Reduced (pos n) = omega (arith, ints)
halved_twice Reduced (negsuc n) = omega (arith, ints)

pub even_smooth : (t : Transform) (l : Scale) (low : ℕ → ℤ) (n : ℕ) → even t l low nought n ≡ low n
unfolding even lowered
even_smooth t l low n = rw (edged_nought t l (n - 1), edged_nought t l n) (even_of_nought t (low n))

pub odd_smooth : (t : Transform) (l : Scale) (low : ℕ → ℤ) (n m : ℕ) → min (n + 1) (low_size t l - 1) ≡ m → odd t l low nought n ≡ halved t (low n +ℤ low m)
unfolding odd
odd_smooth t l low n m e = rw (e, edged_nought t l n, even_smooth t l low n, even_smooth t l low m) (odd_of_nought t (low n) (low m))

-- where both halves of a line are nought, the line is nought
pub joined_nought : (t : Transform) (l : Scale) (low high : ℕ → ℤ) → ((n : ℕ) → n < low_size t l → low n ≡ pos 0) → ((n : ℕ) → n < high_size t l → high n ≡ pos 0) → (k : ℕ) → k < low_size t l + high_size t l → joined t l low high k ≡ pos 0
joined_nought t l low high p q k h =
    nought_of_within _ (joined_within t l 0 0 low high (λ n b. within_of_nought 0 _ (p n b)) (λ n b. within_of_nought 0 _ (q n b)) k h)

-- a line whose low half is the same number everywhere, and whose high half is nought
pub joined_flat : (t : Transform) (l : Scale) (c : ℤ) (low high : ℕ → ℤ) → ((n : ℕ) → n < low_size t l → low n ≡ c) → ((n : ℕ) → n < high_size t l → high n ≡ pos 0) → (k : ℕ) → k < low_size t l + high_size t l → joined t l low high k ≡ c
joined_flat t l c low high p q k h =
    joined_same t l low (λ n. c) high nought p q k h
    ∙ by_parity (λ k. joined t l (λ n. c) nought k ≡ c) (low_size t l + high_size t l)
    (λ n b. joined_even t l (λ n. c) nought n ∙ even_smooth t l (λ n. c) n)
    (λ n b. joined_odd t l (λ n. c) nought n ∙ odd_smooth t l (λ n. c) n _ refl ∙ halved_twice t c)
    k h

level_flat : (t : Transform) (l : Scale) (c : ℤ) (ll hl lh hh : ℕ → ℕ → ℤ) → ((r k : ℕ) → r < low_size t l → k < low_size t l → ll r k ≡ c) → ((r k : ℕ) → r < low_size t l → k < high_size t l → hl r k ≡ pos 0) → ((r k : ℕ) → r < high_size t l → k < low_size t l → lh r k ≡ pos 0) → ((r k : ℕ) → r < high_size t l → k < high_size t l → hh r k ≡ pos 0) → (y x : ℕ) → y < low_size t l + high_size t l → x < low_size t l + high_size t l → level_joined t l ll hl lh hh y x ≡ c
unfolding level_joined
level_flat t l c ll hl lh hh p q r s y x h k =
    joined_flat t l c _ _
    (λ n b. joined_flat t l c _ _ (λ m d. p n m b d) (λ m d. q n m b d) x k)
    (λ n b. joined_nought t l _ _ (λ m d. r n m b d) (λ m d. s n m b d) x k)
    y h

-- the bands of a level, where all before the end of the last is nought
record AreNought (t : Transform) (l : Scale) (hl lh hh : Band) (plane : List ℤ) : Type 0 where
  hl_is : (r k : ℕ) → r < low_size t l → k < high_size t l → coefficient t plane hl r k ≡ pos 0
  lh_is : (r k : ℕ) → r < high_size t l → k < low_size t l → coefficient t plane lh r k ≡ pos 0
  hh_is : (r k : ℕ) → r < high_size t l → k < high_size t l → coefficient t plane hh r k ≡ pos 0

bands_nought : (t : Transform) (l : Scale) (hl lh hh : Band) → AreBandsOf t l hl lh hh → (plane : List ℤ) → ((k : ℕ) → k < part_start t l + low_start t l → at plane k ≡ pos 0) → AreNought t l hl lh hh plane
bands_nought t l hl lh hh b plane none =
    let n = low_size t l in
    let m = high_size t l in
    record {
      hl_is = λ r k p q. let i = place_in m n r k p q in none _ (rw (b.hl_start, b.hl_columns) (omega arith));
      lh_is = λ r k p q. let i = place_in n m r k p q in none _ (rw (b.lh_start, b.lh_columns) (omega arith));
      hh_is = λ r k p q. let i = place_in m m r k p q in none _ (rw (b.hh_start, b.hh_columns) (omega arith));
    }

ll_end : (t : Transform) → start t Ll3 + low_size t Third * low_size t Third ≡ 4096
ll_end Plain = refl
ll_end Reduced = refl

-- where all bands but LL3 are nought, and LL3 is the same number everywhere, so are the samples
pub sample_flat : (t : Transform) (c : ℤ) (plane : List ℤ) → ((k : ℕ) → k < 4096 - low_size t Third * low_size t Third → at plane k ≡ pos 0) → ((k : ℕ) → 4096 - low_size t Third * low_size t Third ≤ k → k < 4096 → at plane k ≡ c) → (y x : ℕ) → y < 64 → x < 64 → sample t plane y x ≡ c
unfolding sample second_level third_level
sample_flat t c plane none same y x p q =
    let b = nested t in
    let end = ll_end t in
    let n = low_size t Third in
    let third = bands_nought t Third Hl3 Lh3 Hh3 (third_bands t) plane (λ k h. none k (omega (arith, h, end, b.last_start))) in
    let second = bands_nought t Second Hl2 Lh2 Hh2 (second_bands t) plane (λ k h. none k (omega (arith, h, end, b.last_start, b.third_start))) in
    let first = bands_nought t First Hl1 Lh1 Hh1 (first_bands t) plane (λ k h. none k (omega (arith, h, end, b.last_start, b.third_start, b.second_start))) in
    level_flat t First c _ _ _ _
    (λ r k h d. level_flat t Second c _ _ _ _
    (λ r k h d. level_flat t Third c _ _ _ _
    (λ r k h d. let i = place_in n n r k h d in same _ (omega (arith, end)) (rw b.last_columns (omega (arith, end))))
    third.hl_is third.lh_is third.hh_is r k (rw b.third_size h) (rw b.third_size d))
    second.hl_is second.lh_is second.hh_is r k (rw b.second_size h) (rw b.second_size d))
    first.hl_is first.lh_is first.hh_is y x (rw b.whole p) (rw b.whole q)
