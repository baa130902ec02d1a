-- Zeros at the front of bits, as a window has them and as they are written.
use Rattle.std.proofs.Common.{◌≡◌, ℕ, zero, suc, ◌+◌, ◌-◌, ◌*◌, ◌%◌, ◌^◌, ◌<◌, ◌≤◌, Bool, true, false, cond, List, [], ◌∷◌, ◌++◌, ◌⊎◌, drop, refl, sym, ap, ◌∙◌, arith, min, subst, replicate, inl, inr, append_assoc, length, length-append, nat_lt}
use Rattle.std.specs.Int.Count.{count_leading_zeros}
use Rattle.std.proofs.Math.Nat.{zero-mod, zero-mul, mul-le-mul_right}
use Rattle.std.proofs.Math.Pow.{pow_mono}
use Rattle.std.proofs.lemmas.Bool.{lt-leb, lt-ltb, le-ltb}
use Rattle.std.proofs.lemmas.Bool.Decides.{eqb_tells}
use Rattle.std.proofs.lemmas.List.{drop-drop, replicate-append-replicate, append-nil, length-replicate}
use Rattle.std.proofs.lemmas.Nat.{pow_pos, pow-add, leading_top, shl_below}
use Rattle.gfx_bits.specs.Bits.{first, number, digits, Spelled, zeros_code}
use Rattle.gfx_bits.proofs.Laws.{number_below, spelled-join, leading_zeros-at}

-- bits whose number has a top bit of zero or one
top-zero : (m r : ℕ) (b : Bool) (rest : ℕ) → r ≤ m → cond b (2 ^ m) 0 + rest < 2 ^ r → (b ≡ false) × (rest < 2 ^ r)
top-zero m r true rest h less = let more : 2 ^ r ≤ 2 ^ m = pow_mono h in absurd (omega arith)
top-zero m r false rest h less = (refl, omega arith)

top-one : (r : ℕ) (b : Bool) (rest : ℕ) → rest < 2 ^ r → 2 ^ r ≤ cond b (2 ^ r) 0 + rest → b ≡ true
top-one r true rest h more = refl
top-one r false rest h more = absurd (omega arith)

drop-suc : (n : ℕ) (bits : List Bool) → drop n (drop 1 bits) ≡ drop (suc n) bits
drop-suc n bits = drop-drop n 1 bits ∙ ap (λ k. drop k bits) {y = suc n} (omega arith)

-- a number of so few bits begins with zeros
pub zeros-front : (n r : ℕ) (bits : List Bool) → number (n + r) bits < 2 ^ r → Spelled bits (replicate n false) (drop n bits)
unfolding number
zeros-front zero r bits h = refl
zeros-front (suc n) r bits h =
    let more : suc n + r ≡ suc (n + r) = omega arith in
    let top = top-zero (n + r) r (first bits) (number (n + r) (drop 1 bits)) (omega arith) (subst (λ k. number k bits < 2 ^ r) more h) in
    (top.0, subst (Spelled (drop 1 bits) (replicate n false)) (drop-suc n bits) (zeros-front n r (drop 1 bits) top.1))

-- and ends them where it is no smaller
pub one-front : (n r : ℕ) (bits : List Bool) → 2 ^ r ≤ number (n + suc r) bits → number (n + suc r) bits < 2 ^ suc r → first (drop n bits) ≡ true
unfolding number
one-front zero r bits p q = top-one r (first bits) (number r (drop 1 bits)) (number_below r (drop 1 bits)) (subst (λ k. 2 ^ r ≤ number k bits) {x = 0 + suc r} {y = suc r} (omega arith) p)
one-front (suc n) r bits p q =
    let more : suc n + suc r ≡ suc (n + suc r) = omega arith in
    let below = subst (λ k. number k bits < 2 ^ suc r) more q in
    let top = top-zero (n + suc r) (suc r) (first bits) (number (n + suc r) (drop 1 bits)) (omega arith) below in
    let least : 2 ^ r ≤ number (n + suc r) (drop 1 bits) =
    omega (arith, subst (λ b. 2 ^ r ≤ cond b (2 ^ (n + suc r)) 0 + number (n + suc r) (drop 1 bits)) top.0 (subst (λ k. 2 ^ r ≤ number k bits) more p)) in
    ap first (sym (drop-suc n bits)) ∙ one-front n r (drop 1 bits) least top.1

-- where the first one of so many bits stands, if they have any
first_one : (w : ℕ) (bits : List Bool) → w ≤ 64
    → (number w bits ≡ 0) ⊎ ((j : ℕ) × (2 ^ j ≤ number w bits) × (number w bits < 2 ^ suc j) × (count_leading_zeros 64 (number w bits * 2 ^ (64 - w)) + suc j ≡ w))
first_one w bits h = elim (eqb_tells (number w bits) 0) [
  | inl none ↦ inl none.1
  | inr some ↦
      let top = leading_top w (number w bits) (omega (arith, some.1)) (number_below w bits) in
      let j : ℕ = top.0 in
      let low : 2 ^ j * 2 ^ (64 - w) ≤ number w bits * 2 ^ (64 - w) = mul-le-mul_right (2 ^ (64 - w)) top.2 in
      let high : number w bits * 2 ^ (64 - w) < 2 ^ (suc j + (64 - w)) = shl_below (number w bits) (suc j) (64 - w) top.3 in
      let over : 2 ^ (suc j + (64 - w)) ≡ 2 ^ suc (j + (64 - w)) = ap (λ k. 2 ^ k) {x = suc j + (64 - w)} {y = suc (j + (64 - w))} (omega arith) in
      let most : number w bits * 2 ^ (64 - w) < 2 ^ (w + (64 - w)) = shl_below (number w bits) w (64 - w) (number_below w bits) in
      let all : 2 ^ (w + (64 - w)) ≡ 2 ^ 64 = ap (λ k. 2 ^ k) {x = w + (64 - w)} {y = 64} (omega arith) in
      let zeros = leading_zeros-at (j + (64 - w)) (number w bits * 2 ^ (64 - w)) (omega (arith, pow-add 2 j (64 - w), low)) (omega (arith, high, over)) (omega (arith, most, all)) in
      inr (j, top.2, top.3, omega (arith, zeros, top.1))
]

-- what leading zeros of bits at the top of a word, as the machine counts them, are
pub zeros_at_top : (w : ℕ) (bits : List Bool) (count n : ℕ) → w ≤ 64 → count ≡ min (count_leading_zeros 64 (number w bits * 2 ^ (64 - w))) w → n ≤ count
    → Spelled bits (replicate n false) (drop n bits)
zeros_at_top w bits count n fits e h = elim (first_one w bits fits) [
  | inl none ↦ zeros-front n (w - n) bits (subst (λ k. number k bits < 2 ^ (w - n)) {x = w} (omega arith) (omega (arith, none, pow_pos (w - n))))
  | inr one ↦
      let less : 2 ^ suc one.0 ≤ 2 ^ (w - n) = let few : suc one.0 ≤ w - n = omega (arith, one.3) in pow_mono few in
      zeros-front n (w - n) bits (subst (λ k. number k bits < 2 ^ (w - n)) {x = w} (omega (arith, one.3)) (omega (arith, one.2)))
]

nothing : (a q : ℕ) → a ≡ 0 → count_leading_zeros 64 (a * q) ≡ 64
unfolding count_leading_zeros
nothing a q e = ap (count_leading_zeros 64) {y = 0} (ap (λ k. k * q) e ∙ zero-mul q)

pub one_at_top : (w : ℕ) (bits : List Bool) (count : ℕ) → w ≤ 64 → count ≡ min (count_leading_zeros 64 (number w bits * 2 ^ (64 - w))) w → count < w
    → first (drop count bits) ≡ true
one_at_top w bits count fits e h = elim (first_one w bits fits) [
  | inl none ↦ absurd (omega (arith, nothing (number w bits) (2 ^ (64 - w)) none))
  | inr one ↦
      let whole : w ≡ count + suc one.0 = omega (arith, one.3) in
      one-front count one.0 bits (subst (λ k. 2 ^ one.0 ≤ number k bits) whole one.1) (subst (λ k. number k bits < 2 ^ suc one.0) whole one.2)
]

-- ---- zeros read

-- some zeros more
pub more-read : (old mid new : List Bool) (m n : ℕ) → Spelled old (replicate m false) mid → Spelled mid (replicate n false) new → Spelled old (replicate (m + n) false) new
more-read old mid new m n p q =
    subst (λ code. Spelled old code new) (replicate-append-replicate m n false) (spelled-join old (replicate m false) mid (replicate n false) new p q)

-- and a one behind them, or the largest count
pub ends-read : (old mid : List Bool) (most count : ℕ) → count < most → Spelled old (replicate count false) mid → first mid ≡ true → Spelled old (zeros_code most count) (drop 1 mid)
unfolding zeros_code
ends-read old mid most count h p one =
    subst (λ b. Spelled old (replicate count false ++ cond b (true ∷ []) []) (drop 1 mid)) (sym (lt-ltb count most h))
    (spelled-join old (replicate count false) mid (true ∷ []) (drop 1 mid) p (one, refl))

pub most-read : (old new : List Bool) (most count : ℕ) → count ≡ most → Spelled old (replicate count false) new → Spelled old (zeros_code most count) new
unfolding zeros_code
most-read old new most count e p =
    subst (λ b. Spelled old (replicate count false ++ cond b (true ∷ []) []) new) (sym (le-ltb count most (omega arith)))
    (subst (λ code. Spelled old code new) (sym (append-nil (replicate count false))) p)

-- how many bits a count takes
pub code-size : (most count : ℕ) → length (zeros_code most count) ≡ count + cond (nat_lt count most) 1 0
unfolding zeros_code
code-size most count =
    length-append (replicate count false) (cond (nat_lt count most) (true ∷ []) [])
    ∙ omega (arith, length-replicate count false, ending (nat_lt count most))
  where
    ending : (b : Bool) → length (cond b (true ∷ []) []) ≡ cond b 1 0
    ending true = refl
    ending false = refl

-- ---- zeros written

digits-zeros : (n : ℕ) → digits n 0 ≡ replicate n false
unfolding digits
digits-zeros zero = refl
digits-zeros (suc n) =
    ap (λ b. b ∷ digits n (0 % 2 ^ n)) (lt-leb (2 ^ n) 0 (omega (arith, pow_pos n)))
    ∙ ap (λ k. false ∷ digits n k) (zero-mod (2 ^ n))
    ∙ ap (λ b. false ∷ b) (digits-zeros n)

pub more_zeros : (old : List Bool) (m n : ℕ) → (old ++ replicate m false) ++ digits n 0 ≡ old ++ replicate (m + n) false
more_zeros old m n =
    append_assoc old (replicate m false) (digits n 0)
    ∙ ap (λ b. old ++ (replicate m false ++ b)) (digits-zeros n)
    ∙ ap (λ b. old ++ b) (replicate-append-replicate m n false)

-- ---- a number and a count written

digits-one : digits 1 1 ≡ true ∷ []
unfolding digits
digits-one = refl

pub count-ended : (old one two new : List Bool) (n value count most : ℕ) → count < most → one ≡ old ++ digits n value → two ≡ one ++ replicate count false → new ≡ two ++ digits 1 1
    → new ≡ old ++ (digits n value ++ zeros_code most count)
unfolding zeros_code
count-ended old one two new n value count most less e f g =
    g ∙ ap (λ b. two ++ b) digits-one ∙ ap (λ b. b ++ true ∷ []) (f ∙ ap (λ b. b ++ replicate count false) e)
    ∙ append_assoc (old ++ digits n value) (replicate count false) (true ∷ [])
    ∙ append_assoc old (digits n value) (replicate count false ++ true ∷ [])
    ∙ ap (λ b. old ++ (digits n value ++ (replicate count false ++ cond b (true ∷ []) []))) (sym (lt-ltb count most less))

pub count-unended : (old one new : List Bool) (n value count most : ℕ) → most ≤ count → one ≡ old ++ digits n value → new ≡ one ++ replicate count false
    → new ≡ old ++ (digits n value ++ zeros_code most count)
unfolding zeros_code
count-unended old one new n value count most full e f =
    f ∙ ap (λ b. b ++ replicate count false) e
    ∙ append_assoc old (digits n value) (replicate count false)
    ∙ ap (λ b. old ++ (digits n value ++ b)) (sym (append-nil (replicate count false)))
    ∙ ap (λ b. old ++ (digits n value ++ (replicate count false ++ cond b (true ∷ []) []))) (sym (le-ltb count most full))
