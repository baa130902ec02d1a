-- What a value gains where more of its bits are sent.
use Rattle.std.proofs.Common.{◌≡◌, ◌∙◌, ℕ, zero, suc, ◌+◌, ◌-◌, ◌*◌, ◌/◌, ◌%◌, ◌^◌, ◌<◌, ◌≤◌, Bool, true, false, ℤ, pos, negsuc, neg_ℤ, ◌+ℤ◌, ◌-ℤ◌, ◌*ℤ◌, refl, sym, ap, subst, arith}
use Rattle.std.specs.Prelude.{int_div}
use Rattle.std.specs.Int.{int_shr}
use Rattle.std.specs.Int.RustNames.{unsigned_abs}
use Rattle.std.proofs.lemmas.Int.{ints}
use Rattle.std.proofs.lemmas.Nat.{pow-add, pow_pos, div-add-mod', mod_below}
use Rattle.std.proofs.Math.Nat.{div-div-eq-div-mul, mul_assoc}
use Rattle.std.proofs.Math.IntN.{pos-*ℤ-pos, negsuc-*ℤ-pos, *ℤ_comm, *ℤ-zero, suc_ℤ-*ℤ, +ℤ_comm, -ℤ-+ℤ_cancel}
use Rattle.gfx_dwt.specs.declared.layout.Band.{Band}
use Rattle.gfx_dwt.specs.declared.layout.Band.TheVariants.{Ll3}
use Rattle.gfx_quant.specs.Coefficient.{coefficient_of, truncated}
use Rattle.gfx_tile_state.specs.Entries.{Down, Fits, Up, is_low, signed_way, way}
use Rattle.gfx_tile_make.specs.Upgrade.{gained}

-- a number without its low bits, in two steps
pub two-steps : (m p n : ℕ) → m / 2 ^ (p + n) ≡ m / 2 ^ p / 2 ^ n
two-steps m p n = ap (λ d. m / d) (pow-add 2 p n) ∙ sym (div-div-eq-div-mul m (2 ^ p) (2 ^ n))

-- what is left of a number, of a number below zero, and of a floor below zero
pub left-up : (x d : ℕ) → pos x -ℤ pos (x / d) *ℤ pos d ≡ pos (x % d)
left-up x d = rw (pos-*ℤ-pos (x / d) d) (omega (arith, ints, div-add-mod' x d))

pub minus-times : (q d : ℕ) → neg_ℤ (pos q) *ℤ pos d ≡ neg_ℤ (pos (q * d))
minus-times zero d = omega (arith, ints)
minus-times (suc q) d = negsuc-*ℤ-pos q d

pub left-down : (x d : ℕ) → neg_ℤ (pos x) -ℤ neg_ℤ (pos (x / d)) *ℤ pos d ≡ neg_ℤ (pos (x % d))
left-down x d = rw (minus-times (x / d) d) (omega (arith, ints, div-add-mod' x d))

pub left-floor : (x d : ℕ) → 0 < d → (x % d < d) → negsuc x -ℤ negsuc (x / d) *ℤ pos d ≡ pos (d - 1 - x % d)
left-floor x d some less =
    let whole : suc (x / d) * d ≡ x / d * d + d = omega arith in
    rw (negsuc-*ℤ-pos (x / d) d, whole) (omega (arith, ints, div-add-mod' x d))

-- ---- what a value of LL3 gains

pub low-gain : (v : ℤ) (p n : ℕ) → (r : ℕ) × ((r < 2 ^ n) × (int_shr v p -ℤ int_shr v (p + n) *ℤ pos (2 ^ n) ≡ pos r))
low-gain (pos m) p n = (
  m / 2 ^ p % 2 ^ n,
  (mod_below (m / 2 ^ p) (2 ^ n) (pow_pos n), ap (λ q. pos (m / 2 ^ p) -ℤ pos q *ℤ pos (2 ^ n)) (two-steps m p n) ∙ left-up (m / 2 ^ p) (2 ^ n)),
)
low-gain (negsuc m) p n =
    let less : m / 2 ^ p % 2 ^ n < 2 ^ n = mod_below (m / 2 ^ p) (2 ^ n) (pow_pos n) in (
      2 ^ n - 1 - m / 2 ^ p % 2 ^ n,
      (omega arith, ap (λ q. negsuc (m / 2 ^ p) -ℤ negsuc q *ℤ pos (2 ^ n)) (two-steps m p n) ∙ left-floor (m / 2 ^ p) (2 ^ n) (pow_pos n) less),
    )

pub low-gained : (v : ℤ) (before behind : ℕ) → behind ≤ before → (r : ℕ) × ((r < 2 ^ (before - behind)) × (int_shr v behind -ℤ int_shr v before *ℤ pos (2 ^ (before - behind)) ≡ pos r))
low-gained v before behind h =
    let gain = low-gain v behind (before - behind) in
    (gain.0, (gain.1.0, ap (λ q. int_shr v behind -ℤ int_shr v q *ℤ pos (2 ^ (before - behind))) {x = before} {y = behind + (before - behind)} (omega arith) ∙ gain.1.1))

-- ---- what any other value gains

pub up-gain : (m p n : ℕ) → int_div (pos m) (pos (2 ^ p)) -ℤ int_div (pos m) (pos (2 ^ (p + n))) *ℤ pos (2 ^ n) ≡ pos (m / 2 ^ p % 2 ^ n)
up-gain m p n = ap (λ q. pos (m / 2 ^ p) -ℤ pos q *ℤ pos (2 ^ n)) (two-steps m p n) ∙ left-up (m / 2 ^ p) (2 ^ n)

pub down-gain : (m p n : ℕ) → int_div (negsuc m) (pos (2 ^ p)) -ℤ int_div (negsuc m) (pos (2 ^ (p + n))) *ℤ pos (2 ^ n) ≡ neg_ℤ (pos (suc m / 2 ^ p % 2 ^ n))
down-gain m p n = ap (λ q. neg_ℤ (pos (suc m / 2 ^ p)) -ℤ neg_ℤ (pos q) *ℤ pos (2 ^ n)) (two-steps (suc m) p n) ∙ left-down (suc m / 2 ^ p) (2 ^ n)

-- ---- an entry fits its place

pub abs-neg : (r : ℕ) → unsigned_abs (neg_ℤ (pos r)) ≡ r
abs-neg zero = refl
abs-neg (suc r) = refl

fits-up : (q r n : ℕ) → r < 2 ^ n → Fits (signed_way (pos q)) n (pos r)
fits-up zero r n h = tt
fits-up (suc q) r n h = (refl, h)

fits-down : (q r n : ℕ) → r < 2 ^ n → Fits (signed_way (neg_ℤ (pos q))) n (neg_ℤ (pos r))
fits-down zero r n h = tt
fits-down (suc q) r n h = (ap (λ m. neg_ℤ (pos m)) (sym (abs-neg r)), subst (λ m. m < 2 ^ n) (sym (abs-neg r)) h)

-- by how far it was, and how far it goes
fits-signed : (v : ℤ) (p n : ℕ) → Fits (signed_way (int_div v (pos (2 ^ (p + n))))) n (int_div v (pos (2 ^ p)) -ℤ int_div v (pos (2 ^ (p + n))) *ℤ pos (2 ^ n))
fits-signed (pos m) p n = subst (Fits (signed_way (pos (m / 2 ^ (p + n)))) n) (sym (up-gain m p n)) (fits-up (m / 2 ^ (p + n)) (m / 2 ^ p % 2 ^ n) n (mod_below (m / 2 ^ p) (2 ^ n) (pow_pos n)))
fits-signed (negsuc m) p n =
    subst (Fits (signed_way (neg_ℤ (pos (suc m / 2 ^ (p + n))))) n) (sym (down-gain m p n)) (fits-down (suc m / 2 ^ (p + n)) (suc m / 2 ^ p % 2 ^ n) n (mod_below (suc m / 2 ^ p) (2 ^ n) (pow_pos n)))

fits-counted : (entry : ℤ) (r n : ℕ) → r < 2 ^ n → entry ≡ pos r → (entry ≡ pos (unsigned_abs entry)) × (unsigned_abs entry < 2 ^ n)
fits-counted entry r n h e = (rw e refl, rw e h)

some-fall : (band : Band) (v : ℤ) (p n : ℕ) → Fits (way (suc n) (is_low band) (truncated band v (p + suc n))) (suc n) (truncated band v p -ℤ truncated band v (p + suc n) *ℤ pos (2 ^ suc n))
unfolding truncated
some-fall Ll3 v p n = let gain = low-gain v p (suc n) in fits-counted _ gain.0 (suc n) gain.1.0 gain.1.1
some-fall _ v p n = fits-signed v p (suc n)

nothing-gained : (z : ℤ) → z -ℤ z *ℤ pos (2 ^ 0) ≡ pos 0
nothing-gained z = omega (arith, ints)

any-fall : (band : Band) (v : ℤ) (p n : ℕ) → Fits (way n (is_low band) (truncated band v (p + n))) n (truncated band v p -ℤ truncated band v (p + n) *ℤ pos (2 ^ n))
any-fall band v p zero = ap (λ q. truncated band v p -ℤ truncated band v q *ℤ pos (2 ^ 0)) {x = p + 0} {y = p} (omega arith) ∙ nothing-gained (truncated band v p)
any-fall band v p (suc n) = some-fall band v p n

-- what a value gains fits its place
pub gained-fits : (band : Band) (v : ℤ) (before behind : ℕ) → behind ≤ before → Fits (way (before - behind) (is_low band) (truncated band v before)) (before - behind) (gained band v before behind)
gained-fits band v before behind h =
    subst (λ q. Fits (way (before - behind) (is_low band) (truncated band v q)) (before - behind) (truncated band v behind -ℤ truncated band v q *ℤ pos (2 ^ (before - behind)))) {x = behind + (before - behind)} {y = before} (omega arith)
    (any-fall band v behind (before - behind))

-- ---- the way of a place

above : (n : ℕ) → 0 < n → (signed_way (pos n) ≡ Up) × (signed_way (neg_ℤ (pos n)) ≡ Down)
above zero h = absurd (omega arith)
above (suc n) h = (refl, refl)

some-product : (m w : ℕ) → 0 < w → 0 < suc m * w
some-product m w h = omega arith

-- a sum has the sign of what it is of
pub signed-weighed : (v : ℤ) (w : ℕ) → 0 < w → signed_way (v *ℤ pos w) ≡ signed_way v
signed-weighed (pos zero) w h = ap (λ n. signed_way (pos n)) {x = 0 * w} {y = 0} (omega arith)
signed-weighed (pos (suc m)) w h = (above (suc m * w) (some-product m w h)).0
signed-weighed (negsuc m) w h = (above (suc m * w) (some-product m w h)).1

pub way-weighed : (n : ℕ) (low : Bool) (v : ℤ) (s : ℕ) → way n low (coefficient_of v s) ≡ way n low v
way-weighed zero low v s = refl
way-weighed (suc n) true v s = refl
way-weighed (suc n) false v s = signed-weighed v (2 ^ (s - 1)) (pow_pos (s - 1))

-- ---- sums

times-more : (a : ℤ) (w : ℕ) → a *ℤ pos (suc w) ≡ a *ℤ pos w +ℤ a
times-more a w = *ℤ_comm a (pos (suc w)) ∙ suc_ℤ-*ℤ (pos w) a ∙ ap (λ z. z +ℤ a) (*ℤ_comm (pos w) a)

regroup : (x y a b : ℤ) → x +ℤ y +ℤ (a +ℤ b) ≡ x +ℤ a +ℤ (y +ℤ b)
regroup x y a b = omega (arith, ints)

distributed : (a b : ℤ) (w : ℕ) → (a +ℤ b) *ℤ pos w ≡ a *ℤ pos w +ℤ b *ℤ pos w
distributed a b zero = *ℤ-zero (a +ℤ b) ∙ sym (ap (λ z. z +ℤ b *ℤ pos 0) (*ℤ-zero a) ∙ ap (λ z. pos 0 +ℤ z) (*ℤ-zero b))
distributed a b (suc w) =
    times-more (a +ℤ b) w
    ∙ ap (λ z. z +ℤ (a +ℤ b)) (distributed a b w)
    ∙ regroup (a *ℤ pos w) (b *ℤ pos w) a b
    ∙ sym (ap (λ z. z +ℤ b *ℤ pos (suc w)) (times-more a w) ∙ ap (λ z. a *ℤ pos w +ℤ a +ℤ z) (times-more b w))

times-twice : (a : ℤ) (d w : ℕ) → a *ℤ pos d *ℤ pos w ≡ a *ℤ pos (d * w)
times-twice (pos m) d w = ap (λ z. z *ℤ pos w) (pos-*ℤ-pos m d) ∙ pos-*ℤ-pos (m * d) w ∙ ap (λ n. pos n) (mul_assoc m d w) ∙ sym (pos-*ℤ-pos m (d * w))
times-twice (negsuc m) d w =
    ap (λ z. z *ℤ pos w) (negsuc-*ℤ-pos m d) ∙ minus-times (suc m * d) w ∙ ap (λ n. neg_ℤ (pos n)) (mul_assoc (suc m) d w) ∙ sym (negsuc-*ℤ-pos m (d * w))

-- a part of a number and what is left of it
pub parts : (whole part : ℤ) (w : ℕ) → part *ℤ pos w +ℤ (whole -ℤ part) *ℤ pos w ≡ whole *ℤ pos w
parts whole part w =
    +ℤ_comm (part *ℤ pos w) ((whole -ℤ part) *ℤ pos w) ∙ sym (distributed (whole -ℤ part) part w) ∙ ap (λ z. z *ℤ pos w) (-ℤ-+ℤ_cancel whole part)

weights : (base before behind : ℕ) → 1 ≤ base → behind ≤ before → 2 ^ (base + before - 1) ≡ 2 ^ (before - behind) * 2 ^ (base + behind - 1)
weights base before behind some h = ap (λ n. 2 ^ n) {x = base + before - 1} {y = before - behind + (base + behind - 1)} (omega arith) ∙ pow-add 2 (before - behind) (base + behind - 1)

-- the sum before with what the value gains is the sum behind
pub sums-go-on : (band : Band) (v : ℤ) (base before behind : ℕ) → 1 ≤ base → behind ≤ before
    → coefficient_of (truncated band v before) (base + before) +ℤ coefficient_of (gained band v before behind) (base + behind) ≡ coefficient_of (truncated band v behind) (base + behind)
sums-go-on band v base before behind some h =
    let w : ℕ = 2 ^ (base + behind - 1) in
    let d : ℕ = 2 ^ (before - behind) in
    let coarse : ℤ = truncated band v before in
    ap (λ n. coarse *ℤ pos n +ℤ gained band v before behind *ℤ pos w) (weights base before behind some h)
    ∙ ap (λ z. z +ℤ gained band v before behind *ℤ pos w) (sym (times-twice coarse d w))
    ∙ parts (truncated band v behind) (coarse *ℤ pos d) w
