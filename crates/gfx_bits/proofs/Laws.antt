-- Laws of bits, numbers and codes.
use Rattle.std.proofs.Common.{◌≡◌, ℕ, zero, suc, ◌+◌, ◌-◌, ◌*◌, ◌/◌, ◌%◌, ◌^◌, ◌<◌, ◌≤◌, Bool, true, false, cond, nat_le, List, [], ◌∷◌, ◌++◌, length, drop, refl, sym, ap, ◌∙◌, arith, min, subst, replicate, inl, inr, append_assoc, get_or, length-append, get_or-drop}
use Rattle.std.proofs.Math.Nat.{pow-suc, mul-le-mul_right, add-mul}
use Rattle.std.proofs.Math.Seq.{drop-nil}
use Rattle.std.proofs.lemmas.List.{drop-drop, length-replicate}
use Rattle.std.proofs.lemmas.Nat.{pow_pos, mod_below, pow-add, mod_low, shr_high, mod-pow-add, mul-add-lt, leading_top, leading_length}
use Rattle.std.proofs.lemmas.Bool.{le-leb, lt-leb}
use Rattle.std.proofs.lemmas.Bool.Decides.{leb_tells}
use Rattle.std.specs.Int
use Rattle.std.specs.Int.{w64, from_be_bytes}
use Rattle.std.specs.Int.Count.{count_leading_zeros}
use Rattle.std.proofs.Math.Pow.{pow_mono}
use Rattle.gfx_bits.specs.Bits.{first, number, digits, bits_of, ones, Spelled, IsPadded}

pub doubled : (n : ℕ) → 2 ^ suc n ≡ 2 ^ n + 2 ^ n
doubled n = pow-suc 2 n ∙ omega arith

suc-both : (m n : ℕ) → suc m + n ≡ suc (m + n)
suc-both m n = omega arith

-- n bits are below 2 ^ n
pub number_below : (n : ℕ) (bits : List Bool) → number n bits < 2 ^ n
unfolding number
number_below zero bits = omega arith
number_below (suc n) bits =
    let below : number n (drop 1 bits) < 2 ^ n = number_below n (drop 1 bits) in
    elim (first bits) as (λ b. cond b (2 ^ n) 0 + number n (drop 1 bits) < 2 ^ suc n)
    [ true ↦ omega (arith, doubled n) | false ↦ omega (arith, doubled n) ]

pub number-nil : (n : ℕ) → number n [] ≡ 0
unfolding number
number-nil zero = refl
number-nil (suc n) = omega (arith, number-nil n)

drop-suc : (n : ℕ) (bits : List Bool) → drop n (drop 1 bits) ≡ drop (suc n) bits
drop-suc n [] = drop-nil n
drop-suc n (bit ∷ bits) = refl

-- a number of m + n bits is one of m bits and one of n
pub number-split : (m n : ℕ) (bits : List Bool) → number (m + n) bits ≡ number m bits * 2 ^ n + number n (drop m bits)
unfolding number
number-split zero n bits = ap (λ k. number k bits) {y = n} (omega arith) ∙ omega arith
number-split (suc m) n bits =
    let rest : number (m + n) (drop 1 bits) ≡ number m (drop 1 bits) * 2 ^ n + number n (drop (suc m) bits) =
    number-split m n (drop 1 bits) ∙ ap (λ b. number m (drop 1 bits) * 2 ^ n + number n b) (drop-suc m bits) in
    ap (λ k. number k bits) (suc-both m n)
    ∙ ap (λ k. cond (first bits) (2 ^ (m + n)) 0 + k) rest
    ∙ elim (first bits) as (λ b. cond b (2 ^ (m + n)) 0 + (number m (drop 1 bits) * 2 ^ n + number n (drop (suc m) bits)) ≡ (cond b (2 ^ m) 0 + number m (drop 1 bits)) * 2 ^ n + number n (drop (suc m) bits))
    [ true ↦ omega (arith, pow-add 2 m n) | false ↦ omega arith ]

pub top_digit : (n : ℕ) (b : Bool) (low : ℕ) → low < 2 ^ n → (b ≡ nat_le (2 ^ n) (cond b (2 ^ n) 0 + low)) × ((cond b (2 ^ n) 0 + low) % 2 ^ n ≡ low)
top_digit n true low h = (sym (le-leb _ _ (omega arith)), ap (λ k. k % 2 ^ n) {y = 1 * 2 ^ n + low} (omega arith) ∙ mod_low 1 n low h)
top_digit n false low h = (sym (lt-leb _ _ (omega arith)), ap (λ k. k % 2 ^ n) {y = 0 * 2 ^ n + low} (omega arith) ∙ mod_low 0 n low h)

top_of : (n value : ℕ) → value < 2 ^ suc n → cond (nat_le (2 ^ n) value) (2 ^ n) 0 + value % 2 ^ n ≡ value
top_of n value h = elim (leb_tells (2 ^ n) value) [
  | inl p ↦
      let low : value - 2 ^ n < 2 ^ n = omega (arith, doubled n, p.1) in
      let whole : 1 * 2 ^ n + (value - 2 ^ n) ≡ value = omega (arith, p.1) in
      let rest : value % 2 ^ n ≡ value - 2 ^ n = ap (λ k. k % 2 ^ n) (sym whole) ∙ mod_low 1 n (value - 2 ^ n) low in
      rw p.0 (omega (arith, p.1))
  | inr p ↦
      let rest : value % 2 ^ n ≡ value = ap (λ k. k % 2 ^ n) {x = value} {y = 0 * 2 ^ n + value} (omega arith) ∙ mod_low 0 n value p.1 in
      rw p.0 (omega arith)
]

-- the next n bits spell their number
pub spelled-number : (n : ℕ) (old : List Bool) → Spelled old (digits n (number n old)) (drop n old)
unfolding number digits
spelled-number zero old = refl
spelled-number (suc n) old =
    let top = top_digit n (first old) (number n (drop 1 old)) (number_below n (drop 1 old)) in
    (top.0, rw (top.1, ← drop-suc n old) (spelled-number n (drop 1 old)))

-- where n digits stand, they are the next n bits
pub number-spelled : (n value : ℕ) (old new : List Bool) → value < 2 ^ n → Spelled old (digits n value) new → (number n old ≡ value) × (new ≡ drop n old)
unfolding number digits
number-spelled zero value old new h p = (omega arith, p)
number-spelled (suc n) value old new h p =
    let rest = number-spelled n (value % 2 ^ n) (drop 1 old) new (mod_below value (2 ^ n) (pow_pos n)) p.1 in
    (rw p.0 (ap (λ k. cond (nat_le (2 ^ n) value) (2 ^ n) 0 + k) rest.0 ∙ top_of n value h), rest.1 ∙ drop-suc n old)

-- one code behind another
pub spelled-join : (old one mid two new : List Bool) → Spelled old one mid → Spelled mid two new → Spelled old (one ++ two) new
spelled-join old [] mid two new e h = subst (λ m. Spelled m two new) e h
spelled-join old (bit ∷ one) mid two new p h = (p.0, spelled-join (drop 1 old) one mid two new p.1 h)

pub spelled-apart : (old one two new : List Bool) → Spelled old (one ++ two) new → (mid : List Bool) × Spelled old one mid × Spelled mid two new
spelled-apart old [] two new p = (old, refl, p)
spelled-apart old (bit ∷ one) two new p =
    let rest = spelled-apart (drop 1 old) one two new p.1 in
    (rest.0, (p.0, rest.1), rest.2)

-- what is behind a code is the bits dropped
pub spelled-drop : (old code new : List Bool) → Spelled old code new → new ≡ drop (length code) old
spelled-drop old [] new e = e
spelled-drop old (bit ∷ code) new p = spelled-drop (drop 1 old) code new p.1 ∙ drop-suc (length code) old

-- a code stands at the front of what begins with it
pub spelled-front : (code rest : List Bool) → Spelled (code ++ rest) code rest
spelled-front [] rest = refl
spelled-front (bit ∷ code) rest = (refl, spelled-front code rest)

-- zeros stand past the end
pub spelled-zeros : (n : ℕ) → Spelled [] (replicate n false) []
spelled-zeros zero = refl
spelled-zeros (suc n) = (refl, spelled-zeros n)

pub length-digits : (n value : ℕ) → length (digits n value) ≡ n
unfolding digits
length-digits zero value = refl
length-digits (suc n) value = ap suc (length-digits n (value % 2 ^ n))

-- ones, and then a zero
pub spelled-ones : (old : List Bool) → Spelled old (replicate (ones old) true ++ false ∷ []) (drop (suc (ones old)) old)
spelled-ones [] = (refl, refl)
spelled-ones (false ∷ bits) = (refl, refl)
spelled-ones (true ∷ bits) = (refl, spelled-ones bits)

true_is_not_false : true ≡ false → ⊥
true_is_not_false e = cc

pub ones-spelled : (n : ℕ) (old new : List Bool) → Spelled old (replicate n true ++ false ∷ []) new → (ones old ≡ n) × (new ≡ drop (suc n) old)
ones-spelled zero [] new p = (refl, p.1)
ones-spelled zero (false ∷ bits) new p = (refl, p.1)
ones-spelled zero (true ∷ bits) new p = absurd (true_is_not_false p.0)
ones-spelled (suc n) [] new p = absurd (true_is_not_false (sym p.0))
ones-spelled (suc n) (false ∷ bits) new p = absurd (true_is_not_false (sym p.0))
ones-spelled (suc n) (true ∷ bits) new p = let rest = ones-spelled n bits new p.1 in (ap suc rest.0, rest.1)

-- ---- what n bits that were written are when they are read

pub number-digits : (n value : ℕ) (rest : List Bool) → value < 2 ^ n → number n (digits n value ++ rest) ≡ value
number-digits n value rest h = (number-spelled n value (digits n value ++ rest) rest h (spelled-front (digits n value) rest)).0

pub drop-digits : (n value : ℕ) (rest : List Bool) → drop n (digits n value ++ rest) ≡ rest
drop-digits n value rest =
    ap (λ k. drop k (digits n value ++ rest)) (sym (length-digits n value))
    ∙ sym (spelled-drop (digits n value ++ rest) (digits n value) rest (spelled-front (digits n value) rest))

same_low : (m n high low : ℕ) → low < 2 ^ n → (high * 2 ^ n + low) % 2 ^ (m + n) ≡ high % 2 ^ m * 2 ^ n + low
same_low m n high low h =
    mod-pow-add (high * 2 ^ n + low) m n
    ∙ ap (λ k. k % 2 ^ m * 2 ^ n + (high * 2 ^ n + low) % 2 ^ n) (shr_high high n low h)
    ∙ ap (λ k. high % 2 ^ m * 2 ^ n + k) (mod_low high n low h)

same_top : (m n high low : ℕ) → low < 2 ^ n → nat_le (2 ^ (m + n)) (high * 2 ^ n + low) ≡ nat_le (2 ^ m) high
same_top m n high low h = elim (leb_tells (2 ^ m) high) [
  | inl p ↦
      let more : 2 ^ m * 2 ^ n ≤ high * 2 ^ n = mul-le-mul_right (2 ^ n) p.1 in
      le-leb (2 ^ (m + n)) (high * 2 ^ n + low) (omega (arith, pow-add 2 m n)) ∙ sym p.0
  | inr p ↦ lt-leb (2 ^ (m + n)) (high * 2 ^ n + low) (rw (pow-add 2 m n) (omega (arith, mul-add-lt high (2 ^ n) low (2 ^ m) p.1 h))) ∙ sym p.0
]

-- the digits of a number in two parts
pub digits-join : (m n high low : ℕ) → high < 2 ^ m → low < 2 ^ n → digits (m + n) (high * 2 ^ n + low) ≡ digits m high ++ digits n low
unfolding digits
digits-join zero n high low top h =
    let none : high ≡ 0 = omega arith in
    ap (λ k. digits k (high * 2 ^ n + low)) {y = n} (omega arith) ∙ ap (λ k. digits n k) {y = low} (omega (arith, ap (λ k. k * 2 ^ n) none))
digits-join (suc m) n high low top h =
    let at : (digits (suc (m + n)) (high * 2 ^ n + low)) ≡ nat_le (2 ^ m) high ∷ (digits m (high % 2 ^ m) ++ digits n low) =
    ap (λ b. b ∷ digits (m + n) ((high * 2 ^ n + low) % 2 ^ (m + n))) (same_top m n high low h)
    ∙ ap (λ k. nat_le (2 ^ m) high ∷ digits (m + n) k) (same_low m n high low h)
    ∙ ap (λ b. nat_le (2 ^ m) high ∷ b) (digits-join m n (high % 2 ^ m) low (mod_below high (2 ^ m) (pow_pos m)) h) in
    ap (λ k. digits k (high * 2 ^ n + low)) (suc-both m n) ∙ at

-- ---- bytes

pub bits_of-append : (xs ys : List ℕ) → bits_of (xs ++ ys) ≡ bits_of xs ++ bits_of ys
unfolding bits_of
bits_of-append [] ys = refl
bits_of-append (x ∷ xs) ys = ap (λ b. digits 8 x ++ b) (bits_of-append xs ys) ∙ sym (append_assoc (digits 8 x) (bits_of xs) (bits_of ys))

pub length-bits_of : (bytes : List ℕ) → length (bits_of bytes) ≡ 8 * length bytes
unfolding bits_of
length-bits_of [] = refl
length-bits_of (x ∷ xs) = omega (arith, length-append (digits 8 x) (bits_of xs), length-digits 8 x, length-bits_of xs)

padded-length : (bits : List Bool) (bytes : List ℕ) (padded : IsPadded bits bytes) → 8 * length bytes ≡ length bits + padded.0
padded-length bits bytes padded =
    sym (length-bits_of bytes) ∙ ap length padded.2 ∙ omega (arith, length-append bits (replicate padded.0 false), length-replicate padded.0 false)

pub drop-byte : (k : ℕ) (bytes : List ℕ) → drop (8 * k) (bits_of bytes) ≡ bits_of (drop k bytes)
unfolding bits_of
drop-byte zero bytes = refl
drop-byte (suc k) [] = drop-nil (8 * suc k)
drop-byte (suc k) (x ∷ bytes) =
    ap (λ n. drop n (digits 8 x ++ bits_of bytes)) {y = 8 + 8 * k} (omega arith)
    ∙ sym (drop-drop (8 * k) 8 (digits 8 x ++ bits_of bytes))
    ∙ ap (λ b. drop (8 * k) b) (drop-digits 8 x (bits_of bytes))
    ∙ drop-byte k bytes

pub next-byte : (bytes : List ℕ) → get_or bytes 0 0 < 256 → number 8 (bits_of bytes) ≡ get_or bytes 0 0
unfolding bits_of
next-byte [] h = number-nil 8
next-byte (x ∷ bytes) h = number-digits 8 x (bits_of bytes) h

-- k + 1 bytes as a number
pub one_more_byte : (k : ℕ) (bytes : List ℕ) → get_or bytes k 0 < 256 → number (8 * (k + 1)) (bits_of bytes) ≡ number (8 * k) (bits_of bytes) * 256 + get_or bytes k 0
one_more_byte k bytes h =
    let front : get_or (drop k bytes) 0 0 ≡ get_or bytes k 0 = get_or-drop k bytes 0 0 ∙ ap (λ i. get_or bytes i 0) {y = k} (omega arith) in
    ap (λ n. number n (bits_of bytes)) {y = 8 * k + 8} (omega arith)
    ∙ number-split (8 * k) 8 (bits_of bytes)
    ∙ ap (λ b. number (8 * k) (bits_of bytes) * 256 + number 8 b) (drop-byte k bytes)
    ∙ ap (λ n. number (8 * k) (bits_of bytes) * 256 + n) (next-byte (drop k bytes) (rw front h) ∙ front)

-- bytes whose bits are the same are the same
pub bits_of-only : (xs ys : List ℕ) → ((i : ℕ) → get_or xs i 0 < 256) → ((i : ℕ) → get_or ys i 0 < 256) → bits_of xs ≡ bits_of ys → xs ≡ ys
unfolding bits_of
bits_of-only [] [] p q e = refl
bits_of-only [] (y ∷ ys) p q e = absurd (omega (arith, ap length e, length-append (digits 8 y) (bits_of ys), length-digits 8 y))
bits_of-only (x ∷ xs) [] p q e = absurd (omega (arith, ap length e, length-append (digits 8 x) (bits_of xs), length-digits 8 x))
bits_of-only (x ∷ xs) (y ∷ ys) p q e =
    let same : x ≡ y = sym (number-digits 8 x (bits_of xs) (p 0)) ∙ ap (number 8) e ∙ number-digits 8 y (bits_of ys) (q 0) in
    let rest : bits_of xs ≡ bits_of ys = sym (drop-digits 8 x (bits_of xs)) ∙ ap (drop 8) e ∙ drop-digits 8 y (bits_of ys) in
    let others : xs ≡ ys = bits_of-only xs ys (λ i. p (suc i)) (λ i. q (suc i)) rest in
    λ i. same i ∷ others i

-- bytes that the same bits fill with as few zeros are the same
pub padded-only : (bits : List Bool) (xs ys : List ℕ) → ((i : ℕ) → get_or xs i 0 < 256) → ((i : ℕ) → get_or ys i 0 < 256)
    → IsPadded bits xs → IsPadded bits ys → xs ≡ ys
padded-only bits xs ys p q one other =
    let long : 8 * length xs ≡ length bits + one.0 = padded-length bits xs one in
    let long_too : 8 * length ys ≡ length bits + other.0 = padded-length bits ys other in
    let same : one.0 ≡ other.0 = omega (arith, one.1, other.1) in
    bits_of-only xs ys p q (one.2 ∙ ap (λ n. bits ++ replicate n false) same ∙ sym other.2)

-- ---- ones

-- the number of n bits that begin with fewer than n ones
ones-below : (n j : ℕ) (bits : List Bool) → n ≡ ones bits + suc j → (2 ^ n ≤ number n bits + 2 ^ suc j) × (number n bits + 2 ^ j < 2 ^ n)
unfolding number
ones-below zero j bits e = absurd (omega arith)
ones-below (suc n) j [] e =
    let same : n ≡ j = omega arith in
    rw (number-nil n, same) (omega arith, omega (arith, doubled j, pow_pos j))
ones-below (suc n) j (false ∷ bits) e =
    let same : n ≡ j = omega arith in
    let below : number j bits < 2 ^ j = number_below j bits in
    rw same (omega arith, omega (arith, doubled j))
ones-below (suc n) j (true ∷ bits) e =
    let rest = ones-below n j bits (omega arith) in
    (omega (arith, doubled n, rest.0), omega (arith, doubled n, rest.1))

ones-above : (n : ℕ) (bits : List Bool) → n ≤ ones bits → number n bits + 1 ≡ 2 ^ n
unfolding number
ones-above zero bits h = refl
ones-above (suc n) [] h = absurd (omega arith)
ones-above (suc n) (false ∷ bits) h = absurd (omega arith)
ones-above (suc n) (true ∷ bits) h = omega (arith, doubled n, ones-above n bits (omega arith))

pub power-below : (i j a : ℕ) → 2 ^ i ≤ a → a < 2 ^ suc j → i ≤ j
power-below i j a p s = elim (leb_tells i j) [
  | inl h ↦ h.1
  | inr h ↦ let more : 2 ^ suc j ≤ 2 ^ i = pow_mono h.1 in absurd (omega arith)
]

-- a number between two powers has that many leading zeros
pub leading_zeros-at : (j a : ℕ) → 2 ^ j ≤ a → a < 2 ^ suc j → a < 2 ^ 64 → count_leading_zeros 64 a + suc j ≡ 64
leading_zeros-at j a p q h =
    let top = leading_top 64 a (omega (arith, pow_pos j)) h in
    omega (arith, top.1, power-below j top.0 a p top.3, power-below top.0 j a top.2 q)

-- a word whose low k bits are ones, and no others
zeros-above : (k : ℕ) → k ≤ 64 → count_leading_zeros 64 (2 ^ k - 1) + k ≡ 64
zeros-above k h =
    let most : 2 ^ k ≤ 2 ^ 64 = pow_mono h in
    let top = leading_length 64 (2 ^ k - 1) (omega (arith, pow_pos k)) in
    let same : top.0 ≡ k = elim (leb_tells k top.0) [
      | inl low ↦ elim (leb_tells top.0 k) [
        | inl high ↦ omega (arith, low.1, high.1)
        | inr over ↦ let more : 2 ^ suc k ≤ 2 ^ top.0 = pow_mono over.1 in absurd (omega (arith, more, top.3, doubled k, pow_pos k))
      ]
      | inr under ↦ let more : 2 ^ suc top.0 ≤ 2 ^ k = pow_mono under.1 in absurd (omega (arith, more, top.2, doubled top.0, pow_pos top.0, pow_pos k))
    ] in
    omega (arith, top.1, same)

-- the ones at the front of so many bits, as the machine counts them at the top of a word
pub ones_at_top : (w : ℕ) (bits : List Bool) → w ≤ 64 → Int.leading_ones w64 (number w bits * 2 ^ (64 - w)) ≡ min w (ones bits)
ones_at_top w bits h = elim (leb_tells w (ones bits)) [
  | inl all ↦
      let full : number w bits + 1 ≡ 2 ^ w = ones-above w bits all.1 in
      let top : number w bits * 2 ^ (64 - w) + 2 ^ (64 - w) ≡ 2 ^ 64 = omega (arith, add-mul (number w bits) 1 (2 ^ (64 - w)), ap (λ k. k * 2 ^ (64 - w)) full, whole) in
      let rest : 2 ^ 64 - 1 - number w bits * 2 ^ (64 - w) ≡ 2 ^ (64 - w) - 1 = omega arith in
      omega (arith, all.1, ap (count_leading_zeros 64) rest, zeros-above (64 - w) (omega arith))
  | inr some ↦
      let j : ℕ = w - 1 - ones bits in
      let part = ones-below w j bits (omega (arith, some.1)) in
      let at : 2 ^ (j + (64 - w)) ≡ 2 ^ j * 2 ^ (64 - w) = pow-add 2 j (64 - w) in
      let most : 2 ^ w * 2 ^ (64 - w) ≤ (number w bits + 2 ^ suc j) * 2 ^ (64 - w) = mul-le-mul_right (2 ^ (64 - w)) part.0 in
      let less : (number w bits + 2 ^ j + 1) * 2 ^ (64 - w) ≤ 2 ^ w * 2 ^ (64 - w) = mul-le-mul_right (2 ^ (64 - w)) (omega (arith, part.1)) in
      let apart = add-mul (number w bits) (2 ^ suc j) (2 ^ (64 - w)) in
      let one = add-mul (number w bits + 2 ^ j) 1 (2 ^ (64 - w)) in
      let two = add-mul (number w bits) (2 ^ j) (2 ^ (64 - w)) in
      let twice : 2 ^ suc j * 2 ^ (64 - w) ≡ 2 ^ suc (j + (64 - w)) = sym (pow-add 2 (suc j) (64 - w)) ∙ ap (λ k. 2 ^ k) {y = suc (j + (64 - w))} (omega arith) in
      omega (
        arith,
        some.1,
        leading_zeros-at (j + (64 - w)) (2 ^ 64 - 1 - number w bits * 2 ^ (64 - w))
            (omega (arith, pow_pos (64 - w), at, less, one, two, whole))
            (omega (arith, pow_pos (64 - w), most, apart, twice, whole))
            (omega arith),
      )
]
  where
    whole : 2 ^ w * 2 ^ (64 - w) ≡ 2 ^ 64
    whole = sym (pow-add 2 w (64 - w)) ∙ ap (λ k. 2 ^ k) {y = 64} (omega arith)

pub length-ones : (bits : List Bool) → ones bits ≤ length bits
length-ones [] = omega arith
length-ones (false ∷ bits) = omega arith
length-ones (true ∷ bits) = omega (arith, length-ones bits)

number-none : (bits : List Bool) → number 0 bits ≡ 0
unfolding number
number-none bits = refl

-- eight bytes are 64 bits
pub number-64 : (bytes : List ℕ) → ((i : ℕ) → get_or bytes i 0 < 256) → number 64 (bits_of bytes) ≡ from_be_bytes w64 bytes
number-64 bytes fits =
    omega (
      arith,
      number-none (bits_of bytes),
      one_more_byte 0 bytes (fits 0),
      one_more_byte 1 bytes (fits 1),
      one_more_byte 2 bytes (fits 2),
      one_more_byte 3 bytes (fits 3),
      one_more_byte 4 bytes (fits 4),
      one_more_byte 5 bytes (fits 5),
      one_more_byte 6 bytes (fits 6),
      one_more_byte 7 bytes (fits 7),
    )

-- the first n bits of a window
pub number_top : (n r : ℕ) (bits : List Bool) → number (n + r) bits / 2 ^ r ≡ number n bits
number_top n r bits =
    ap (λ k. k / 2 ^ r) (number-split n r bits) ∙ shr_high (number n bits) r (number r (drop n bits)) (number_below r (drop n bits))

-- ones that are gone past
pub ones-drop : (n : ℕ) (bits : List Bool) → n ≤ ones bits → ones bits ≡ n + ones (drop n bits)
ones-drop zero bits h = omega arith
ones-drop (suc n) [] h = absurd (omega arith)
ones-drop (suc n) (false ∷ bits) h = absurd (omega arith)
ones-drop (suc n) (true ∷ bits) h = omega (arith, ones-drop n bits (omega arith))

pub drop-ones : (n : ℕ) (bits : List Bool) → n ≤ ones bits → drop (suc (ones (drop n bits))) (drop n bits) ≡ drop (suc (ones bits)) bits
drop-ones n bits h = drop-drop (suc (ones (drop n bits))) n bits ∙ ap (λ k. drop k bits) {y = suc (ones bits)} (omega (arith, ones-drop n bits h))

-- the next bit as a number
pub number_1 : (bits : List Bool) → number 1 bits ≡ cond (first bits) 1 0
unfolding number
number_1 bits = omega arith
