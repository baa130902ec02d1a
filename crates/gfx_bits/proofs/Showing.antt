-- What a word shows of the bits at its top.
use Rattle.std.proofs.Common.{◌≡◌, ℕ, suc, ◌+◌, ◌-◌, ◌*◌, ◌/◌, ◌%◌, ◌^◌, ◌<◌, ◌≤◌, Bool, true, false, cond, List, length, drop, nat_lt, sym, ap, ◌∙◌, arith, min, subst, replicate, inl, inr}
use Rattle.std.proofs.Math.Nat.{add-mul, mul_assoc, mul_comm}
use Rattle.std.proofs.lemmas.Nat.{pow_pos, pow-add, mod_low, mod_below, mul-add-lt, shr_below, shr_split, shr_high, shr-shr, shl_below, le-div, leading_top, or_shr, pow_below, le_or_l, le_or_r}
use Rattle.std.proofs.Math.Pow.{pow_mono, pow-lt}
use Rattle.std.proofs.lemmas.Bool.Decides.{leb_tells, eqb_tells}
use Rattle.std.proofs.lemmas.Bool.{lt-ltb, le-ltb}
use Rattle.std.specs.Prelude.{bit_or}
use Rattle.std.proofs.Math.Facts.{Fits-or, Fits-lt-pow}
use Rattle.std.specs.Int.{w64}
use Rattle.std.specs.Int.Bits.{or_zero_r}
use Rattle.std.specs.Int.Count.{count_leading_zeros, leading_of_zero}
use Rattle.gfx_bits.specs.Bits.{first, number, Spelled, zeros_code}
use Rattle.gfx_bits.specs.Ahead.{Shows}
use Rattle.gfx_bits.proofs.Laws.{number_below, number-split, number_top, power-below, leading_zeros-at, spelled-drop}
use Rattle.gfx_bits.proofs.Zeros.{zeros-front, one-front, ends-read, most-read, code-size}

-- fewer bits
pub shows-fewer : (m n word : ℕ) (bits : List Bool) → n ≤ m → m ≤ 64 → Shows m word bits → Shows n word bits
shows-fewer m n word bits low high is =
    ap (λ k. word / 2 ^ k) {x = 64 - n} {y = 64 - m + (m - n)} (omega arith)
    ∙ sym (shr-shr word (64 - m) (m - n))
    ∙ ap (λ w. w / 2 ^ (m - n)) is
    ∙ ap (λ k. number k bits / 2 ^ (m - n)) {x = m} {y = n + (m - n)} (omega arith)
    ∙ number_top n (m - n) bits

-- what is behind the first n
pub shows-behind : (m n word : ℕ) (bits : List Bool) → n ≤ m → m ≤ 64 → Shows m word bits → Shows (m - n) (word * 2 ^ n % 2 ^ 64) (drop n bits)
shows-behind m n word bits low high is =
    let s : ℕ = 64 - (m - n) in
    let t : ℕ = 64 - m in
    let a : ℕ = number n bits in
    let b : ℕ = number (m - n) (drop n bits) in
    let r : ℕ = word % 2 ^ t in
    let top : word / 2 ^ t ≡ a * 2 ^ (m - n) + b = is ∙ ap (λ k. number k bits) {x = m} {y = n + (m - n)} (omega arith) ∙ number-split n (m - n) bits in
    let under : r * 2 ^ n < 2 ^ s = subst (λ k. r * 2 ^ n < 2 ^ k) {x = t + n} {y = s} (omega arith) (shl_below r t n (mod_below word (2 ^ t) (pow_pos t))) in
    let up : 2 ^ t * 2 ^ n ≡ 2 ^ s = sym (pow-add 2 t n) ∙ ap (λ k. 2 ^ k) {x = t + n} {y = s} (omega arith) in
    let all : 2 ^ (m - n) * 2 ^ s ≡ 2 ^ 64 = sym (pow-add 2 (m - n) s) ∙ ap (λ k. 2 ^ k) {x = m - n + s} {y = 64} (omega arith) in
    let whole : word * 2 ^ n ≡ a * 2 ^ 64 + (b * 2 ^ s + r * 2 ^ n) =
    ap (λ w. w * 2 ^ n) (sym (shr_split word t))
    ∙ add-mul (word / 2 ^ t * 2 ^ t) r (2 ^ n)
    ∙ ap (λ w. w + r * 2 ^ n) (
    mul_assoc (word / 2 ^ t) (2 ^ t) (2 ^ n)
    ∙ ap (λ p. word / 2 ^ t * p) up
    ∙ ap (λ w. w * 2 ^ s) top
    ∙ add-mul (a * 2 ^ (m - n)) b (2 ^ s)
    ∙ ap (λ w. w + b * 2 ^ s) (mul_assoc a (2 ^ (m - n)) (2 ^ s) ∙ ap (λ p. a * p) all)
    )
    ∙ omega arith in
    let less : b * 2 ^ s + r * 2 ^ n < 2 ^ 64 = subst (λ k. b * 2 ^ s + r * 2 ^ n < k) all (fits b (m - n) s (r * 2 ^ n) (number_below (m - n) (drop n bits)) under) in
    ap (λ w. w / 2 ^ s) (ap (λ w. w % 2 ^ 64) whole ∙ mod_low a 64 (b * 2 ^ s + r * 2 ^ n) less)
    ∙ shr_high b s (r * 2 ^ n) under
  where
    fits : (b k s r : ℕ) → b < 2 ^ k → r < 2 ^ s → b * 2 ^ s + r < 2 ^ k * 2 ^ s
    fits b k s r h g = subst (λ p. b * 2 ^ s + r < p) (mul_comm (2 ^ s) (2 ^ k)) (mul-add-lt b (2 ^ s) r (2 ^ k) h g)

-- n bits behind others, as the machine shifts them down
pub shows-number : (m at n word : ℕ) (bits : List Bool) → at + n ≤ m → n ≤ 63 → m ≤ 64 → Shows m word bits
    → word * 2 ^ at % 2 ^ 64 / 2 ^ 1 / 2 ^ (63 - n) ≡ number n (drop at bits)
shows-number m at n word bits low few high is =
    shr-shr (word * 2 ^ at % 2 ^ 64) 1 (63 - n)
    ∙ ap (λ k. word * 2 ^ at % 2 ^ 64 / 2 ^ k) {x = 1 + (63 - n)} {y = 64 - n} (omega arith)
    ∙ shows-fewer (m - at) n (word * 2 ^ at % 2 ^ 64) (drop at bits) (omega arith) (omega arith) (shows-behind m at word bits (omega arith) high is)

-- a word begins with its leading zeros
leading-below : (n word : ℕ) → word < 2 ^ 64 → n ≤ count_leading_zeros 64 word → word < 2 ^ (64 - n)
leading-below n word below h = elim (eqb_tells word 0) [
  | inl none ↦ omega (arith, none.1, pow_pos (64 - n))
  | inr some ↦
      let top = leading_top 64 word (omega (arith, some.1)) below in
      let more : 2 ^ suc top.0 ≤ 2 ^ (64 - n) = let few : suc top.0 ≤ 64 - n = omega (arith, top.1) in pow_mono few in
      omega (arith, top.3)
]

pub shows-zeros : (m n word : ℕ) (bits : List Bool) → m ≤ 64 → word < 2 ^ 64 → Shows m word bits → n ≤ m → n ≤ count_leading_zeros 64 word
    → Spelled bits (replicate n false) (drop n bits)
shows-zeros m n word bits high below is low h =
    let small : word < 2 ^ (0 + (64 - n)) = subst (λ k. word < 2 ^ k) {x = 64 - n} {y = 0 + (64 - n)} (omega arith) (leading-below n word below h) in
    zeros-front n 0 bits
    (subst (λ k. number k bits < 2 ^ 0) {x = n} {y = n + 0} (omega arith)
    (subst (λ k. k < 2 ^ 0) (shows-fewer m n word bits low high is) (shr_below word 0 (64 - n) small)))

pub shows-one : (m word : ℕ) (bits : List Bool) → m ≤ 64 → word < 2 ^ 64 → Shows m word bits → count_leading_zeros 64 word < m
    → first (drop (count_leading_zeros 64 word) bits) ≡ true
shows-one m word bits high below is h =
    let z : ℕ = count_leading_zeros 64 word in
    elim (eqb_tells word 0) [
      | inl none ↦ absurd (omega (arith, ap (count_leading_zeros 64) none.1, leading_of_zero 64))
      | inr some ↦
          let top = leading_top 64 word (omega (arith, some.1)) below in
          let j : ℕ = top.0 in
          let least : 2 ^ 0 ≤ word / 2 ^ j = le-div 1 word (2 ^ j) (pow_pos j) (omega (arith, top.2)) in
          let most : word / 2 ^ j < 2 ^ 1 = shr_below word 1 j (subst (λ k. word < 2 ^ k) {x = suc j} {y = 1 + j} (omega arith) top.3) in
          let same : word / 2 ^ j ≡ number (z + 1) bits = ap (λ k. word / 2 ^ k) {x = j} {y = 64 - (z + 1)} (omega (arith, top.1)) ∙ shows-fewer m (z + 1) word bits (omega arith) high is in
          one-front z 0 bits (subst (λ k. 2 ^ 0 ≤ k) same least) (subst (λ k. k < 2 ^ 1) same most)
    ]

-- zeros that a one ends, or as many as are asked for
pub shows-code : (m most word : ℕ) (bits : List Bool) → m ≤ 64 → word < 2 ^ 64 → Shows m word bits → most ≤ m
    → Spelled bits (zeros_code most (min (count_leading_zeros 64 word) most)) (drop (length (zeros_code most (min (count_leading_zeros 64 word) most))) bits)
shows-code m most word bits high below is fits =
    let z : ℕ = count_leading_zeros 64 word in
    elim (leb_tells most z) [
      | inl all ↦
          let n : ℕ = min z most in
          whole most n bits (drop n bits) (most-read bits (drop n bits) most n (omega (arith, all.1)) (shows-zeros m n word bits high below is (omega arith) (omega arith)))
      | inr some ↦
          let same : z ≡ min z most = omega (arith, some.1) in
          subst (λ n. Spelled bits (zeros_code most n) (drop (length (zeros_code most n)) bits)) same
          (whole most z bits (drop 1 (drop z bits))
          (ends-read bits (drop z bits) most z some.1 (shows-zeros m z word bits high below is (omega (arith, some.1)) (omega arith)) (shows-one m word bits high below is (omega (arith, some.1)))))
    ]
  where
    whole : (most n : ℕ) (bits new : List Bool) → Spelled bits (zeros_code most n) new → Spelled bits (zeros_code most n) (drop (length (zeros_code most n)) bits)
    whole most n bits new p = subst (Spelled bits (zeros_code most n)) (spelled-drop bits (zeros_code most n) new p) p

-- n bits are below 2 ^ n
pub few-bits : (word n : ℕ) → n ≤ 63 → word < 2 ^ 64 → word / 2 ^ 1 / 2 ^ (63 - n) < 2 ^ n
few-bits word n few below =
    subst (λ k. k < 2 ^ n) (sym (shr-shr word 1 (63 - n)))
    (shr_below word n (1 + (63 - n)) (subst (λ k. word < 2 ^ k) {x = 64} {y = n + (1 + (63 - n))} (omega arith) below))

-- a one put behind the first n bits fits the word
ended-below : (n word : ℕ) → word < 2 ^ 64 → bit_or word (2 ^ (63 - n)) < 2 ^ 64
ended-below n word below =
    let one : 2 ^ (63 - n) < 2 ^ 64 = let less : 63 - n < 64 = omega arith in pow-lt less in
    Fits-lt-pow (Fits-or {w = w64} (record { fits = below }) (record { fits = one }))

-- and leaves those as they are
pub shows-ended : (m n word : ℕ) (bits : List Bool) → n ≤ m → n ≤ 63 → m ≤ 64 → Shows m word bits → Shows n (bit_or word (2 ^ (63 - n))) bits
shows-ended m n word bits low few high is =
    or_shr word (2 ^ (63 - n)) (64 - n)
    ∙ ap (bit_or (word / 2 ^ (64 - n))) (none n few)
    ∙ or_zero_r (word / 2 ^ (64 - n))
    ∙ shows-fewer m n word bits low high is
  where
    none : (n : ℕ) → n ≤ 63 → 2 ^ (63 - n) / 2 ^ (64 - n) ≡ 0
    none n few =
        let less : 2 ^ (63 - n) < 2 ^ (64 - n) = let more : 63 - n < 64 - n = omega arith in pow-lt more in
        omega (arith, shr_below (2 ^ (63 - n)) 0 (64 - n) (subst (λ k. 2 ^ (63 - n) < 2 ^ k) {x = 64 - n} {y = 0 + (64 - n)} (omega arith) less))

-- and it ends the zeros there
pub zeros-ended : (n word : ℕ) → n ≤ 63 → word < 2 ^ 64 → count_leading_zeros 64 (bit_or word (2 ^ (63 - n))) ≤ n
zeros-ended n word few below =
    let whole : ℕ = bit_or word (2 ^ (63 - n)) in
    let least : 2 ^ (63 - n) ≤ whole = le_or_r word (2 ^ (63 - n)) in
    let top = leading_top 64 whole (omega (arith, pow_pos (63 - n))) (ended-below n word below) in
    omega (arith, top.1, power-below (63 - n) top.0 whole least top.3)

-- so they spell a count of at most that many
pub ended-code : (m n word : ℕ) (bits : List Bool) → n ≤ m → n ≤ 63 → m ≤ 64 → word < 2 ^ 64 → Shows m word bits
    → Spelled bits (zeros_code n (count_leading_zeros 64 (bit_or word (2 ^ (63 - n))))) (drop (length (zeros_code n (count_leading_zeros 64 (bit_or word (2 ^ (63 - n)))))) bits)
ended-code m n word bits low few high below is =
    let z : ℕ = count_leading_zeros 64 (bit_or word (2 ^ (63 - n))) in
    let same : min z n ≡ z = omega (arith, zeros-ended n word few below) in
    subst (λ count. Spelled bits (zeros_code n count) (drop (length (zeros_code n count)) bits)) same
    (shows-code n n (bit_or word (2 ^ (63 - n))) bits (omega arith) (ended-below n word below) (shows-ended m n word bits low few high is) (omega arith))

-- a count that begins one bit further up is one more, up to the one that ends it
pub ended-size : (n a : ℕ) → n ≤ 62 → a < 2 ^ 64
    → count_leading_zeros 64 (bit_or (a / 2 ^ 1) (2 ^ (63 - n))) ≡ length (zeros_code n (count_leading_zeros 64 (bit_or a (2 ^ (63 - n)))))
ended-size n a few below =
    let g : ℕ = 63 - n in
    let x : ℕ = bit_or a (2 ^ g) in
    let y : ℕ = bit_or (a / 2 ^ 1) (2 ^ g) in
    let top = leading_top 64 x (omega (arith, le_or_r a (2 ^ g), pow_pos g)) (ended-below n a below) in
    let j : ℕ = top.0 in
    let low : g ≤ j = power-below g j x (le_or_r a (2 ^ g)) top.3 in
    let left : a ≤ x = le_or_l a (2 ^ g) in
    let whole : y < 2 ^ 64 = ended-below n (a / 2 ^ 1) (omega (arith, halved a)) in
    elim (leb_tells j g) [
      | inl same ↦
          let at : j ≡ g = omega (arith, same.1) in
          let small : a < 2 ^ (g + 1) = subst (λ k. a < 2 ^ k) {x = suc j} {y = g + 1} (omega arith) (omega (arith, top.3)) in
          let counted = leading_zeros-at g y (le_or_r (a / 2 ^ 1) (2 ^ g)) (or-below (suc g) (a / 2 ^ 1) (2 ^ g) (omega (arith, pow_below g (suc g) (omega arith), shr_below a g 1 small)) (pow_below g (suc g) (omega arith))) whole in
          omega (arith, counted, top.1, code-size n (count_leading_zeros 64 x), ending n (count_leading_zeros 64 x) (omega (arith, top.1)))
      | inr above ↦
          let i : ℕ = j - 1 in
          let big : 2 ^ j ≤ a = elim (leb_tells (2 ^ j) a) [
            | inl h ↦ h.1
            | inr h ↦ absurd (omega (arith, top.2, or-below j a (2 ^ g) h.1 (pow_below g j above.1)))
          ] in
          let half : 2 ^ i ≤ a / 2 ^ 1 = le-half i a (subst (λ k. 2 ^ k ≤ a) {x = j} {y = suc i} (omega (arith, above.1)) big) in
          let counted = leading_zeros-at i y (omega (arith, half, le_or_l (a / 2 ^ 1) (2 ^ g)))
          (or-below (suc i) (a / 2 ^ 1) (2 ^ g) (subst (λ k. a / 2 ^ 1 < 2 ^ k) {x = j} {y = suc i} (omega (arith, above.1)) (shr_below a j 1 (subst (λ k. a < 2 ^ k) {x = suc j} {y = j + 1} (omega arith) (omega (arith, top.3))))) (pow_below g (suc i) (omega (arith, above.1)))) whole in
          omega (arith, counted, top.1, above.1, code-size n (count_leading_zeros 64 x), more n (count_leading_zeros 64 x) (omega (arith, top.1, above.1)))
    ]
  where
    gone : (a k : ℕ) → a < 2 ^ k → a / 2 ^ k ≡ 0
    gone a k h = omega (arith, shr_below a 0 k (subst (λ j. a < 2 ^ j) {x = k} {y = 0 + k} (omega arith) h))

    halved : (a : ℕ) → a / 2 ^ 1 ≤ a
    halved a = omega arith

    or-below : (k a b : ℕ) → a < 2 ^ k → b < 2 ^ k → bit_or a b < 2 ^ k
    or-below k a b p q =
        let none : bit_or a b / 2 ^ k ≡ 0 =
        or_shr a b k
        ∙ ap (λ z. bit_or z (b / 2 ^ k)) (gone a k p)
        ∙ ap (bit_or 0) (gone b k q) in
        elim (leb_tells (2 ^ k) (bit_or a b)) [
          | inl h ↦ let some : 1 ≤ bit_or a b / 2 ^ k = le-div 1 (bit_or a b) (2 ^ k) (pow_pos k) (omega (arith, h.1)) in absurd (omega (arith, none))
          | inr h ↦ h.1
        ]

    le-half : (i a : ℕ) → 2 ^ suc i ≤ a → 2 ^ i ≤ a / 2 ^ 1
    le-half i a h = omega (arith, h)

    ending : (n z : ℕ) → n ≤ z → ◌≡◌ {A = ℕ} (cond (nat_lt z n) 1 0) 0
    ending n z h = ap (λ b. cond b 1 0) (le-ltb z n h)

    more : (n z : ℕ) → z < n → ◌≡◌ {A = ℕ} (cond (nat_lt z n) 1 0) 1
    more n z h = ap (λ b. cond b 1 0) (lt-ltb z n h)
