-- What a reader keeps ahead of its bytes, and what it shows of the bits that are left.
use Rattle.std.proofs.Common.{◌≡◌, ℕ, zero, suc, ◌+◌, ◌-◌, ◌*◌, ◌/◌, ◌%◌, ◌^◌, ◌<◌, ◌≤◌, Bool, true, false, cond, List, [], ◌∷◌, ◌++◌, length, take, drop, refl, sym, ap, ◌∙◌, arith, min, subst, replicate, inl, inr, get_or, length-append, length-drop}
use Rattle.std.proofs.Math.Nat.{add-mul, mul_assoc, mul-mod_left}
use Rattle.std.proofs.lemmas.List.{drop-drop, drop_all, take_all}
use Rattle.std.proofs.lemmas.Nat.{pow-add, mod_low, shr_below, shr_split, shl-shr, shr-shr, shl_below, shl_whole, or_shifted}
use Rattle.std.proofs.lemmas.Bool.Decides.{leb_tells}
use Rattle.std.proofs.Math.Facts.{Fits-or, Fits-lt-pow}
use Rattle.std.specs.Int
use Rattle.std.specs.Int.{w64}
use Rattle.std.specs.Int.Count.{count_leading_zeros}
use Rattle.std.specs.Prelude.{bit_or}
use Rattle.gfx_bits.specs.Bits.{first, number, digits, bits_of, ones, Spelled, zeros_code}
use Rattle.gfx_bits.specs.Ahead.{bits_ahead, IsAhead, Shows}
use Rattle.gfx_bits.proofs.Laws.{number_below, number-nil, number-split, top_digit, number-digits, drop-digits, length-digits, number_top, drop-byte, next-byte, length-bits_of, ones_at_top}
use Rattle.gfx_bits.proofs.Zeros.{zeros_at_top, one_at_top, ends-read, most-read}

-- ---- the first bits, at the top of a word

digits-number : (n : ℕ) (bits : List Bool) → n ≤ length bits → digits n (number n bits) ++ drop n bits ≡ bits
unfolding number digits
digits-number zero bits h = refl
digits-number (suc n) [] h = absurd (omega arith)
digits-number (suc n) (bit ∷ bits) h =
    let top = top_digit n bit (number n bits) (number_below n bits) in
    let rest : digits n ((cond bit (2 ^ n) 0 + number n bits) % 2 ^ n) ++ drop n bits ≡ bits = ap (λ k. digits n k ++ drop n bits) top.1 ∙ digits-number n bits (omega arith) in
    λ i. sym top.0 i ∷ rest i

number-more : (n k : ℕ) (bits : List Bool) → length bits ≤ n → number (n + k) bits ≡ number n bits * 2 ^ k
number-more n k bits h =
    let none : number k (drop n bits) ≡ 0 = ap (number k) (drop_all n bits h) ∙ number-nil k in
    omega (arith, number-split n k bits)

-- past the end the word shows zeros
shown-more : (ahead count m : ℕ) (bits : List Bool) → ahead ≡ number count bits * 2 ^ (64 - count) → length bits ≤ count → count ≤ m → m ≤ 64
    → ahead ≡ number m bits * 2 ^ (64 - m)
shown-more ahead count m bits is short low high =
    is
    ∙ ap (λ k. number count bits * 2 ^ k) {y = m - count + (64 - m)} (omega arith)
    ∙ ap (λ p. number count bits * p) (pow-add 2 (m - count) (64 - m))
    ∙ sym (mul_assoc (number count bits) (2 ^ (m - count)) (2 ^ (64 - m)))
    ∙ ap (λ k. k * 2 ^ (64 - m)) (sym (number-more count (m - count) bits short) ∙ ap (λ k. number k bits) {y = m} (omega arith))

-- the first n of them
value_of : (ahead m n : ℕ) (bits : List Bool) → ahead ≡ number m bits * 2 ^ (64 - m) → n ≤ m → m ≤ 64 → ahead / 2 ^ (64 - n) ≡ number n bits
value_of ahead m n bits is low high =
    ap (λ k. ahead / 2 ^ k) {y = 64 - m + (m - n)} (omega arith)
    ∙ sym (shr-shr ahead (64 - m) (m - n))
    ∙ ap (λ k. k / 2 ^ (m - n)) (ap (λ a. a / 2 ^ (64 - m)) is ∙ shl-shr (number m bits) (64 - m) ∙ ap (λ k. number k bits) {y = n + (m - n)} (omega arith))
    ∙ number_top n (m - n) bits

-- what is behind them
rest_of : (ahead m n : ℕ) (bits : List Bool) → ahead ≡ number m bits * 2 ^ (64 - m) → n ≤ m → m ≤ 64
    → ahead * 2 ^ n % 2 ^ 64 ≡ number (m - n) (drop n bits) * 2 ^ (64 - (m - n))
rest_of ahead m n bits is low high =
    let s : ℕ = 64 - (m - n) in
    let below : number (m - n) (drop n bits) * 2 ^ s < 2 ^ 64 =
    subst (λ k. number (m - n) (drop n bits) * 2 ^ s < 2 ^ k) {x = m - n + s} {y = 64} (omega arith)
    (shl_below (number (m - n) (drop n bits)) (m - n) s (number_below (m - n) (drop n bits))) in
    ap (λ a. a % 2 ^ 64) (
    ap (λ a. a * 2 ^ n) is
    ∙ mul_assoc (number m bits) (2 ^ (64 - m)) (2 ^ n)
    ∙ ap (λ p. number m bits * p) (sym (pow-add 2 (64 - m) n) ∙ ap (λ k. 2 ^ k) {y = s} (omega arith))
    ∙ ap (λ k. k * 2 ^ s) (ap (λ k. number k bits) {x = m} {y = n + (m - n)} (omega arith) ∙ number-split n (m - n) bits)
    ∙ add-mul (number n bits * 2 ^ (m - n)) (number (m - n) (drop n bits)) (2 ^ s)
    ∙ ap (λ k. k + number (m - n) (drop n bits) * 2 ^ s) (
    mul_assoc (number n bits) (2 ^ (m - n)) (2 ^ s)
    ∙ ap (λ p. number n bits * p) (sym (pow-add 2 (m - n) s) ∙ ap (λ k. 2 ^ k) {y = 64} (omega arith))
    )
    )
    ∙ mod_low (number n bits) 64 (number (m - n) (drop n bits) * 2 ^ s) below

-- ---- the bits ahead and those of the bytes

pub shown : (ahead count : ℕ) (rest : List ℕ) → ahead < 2 ^ 64 → IsAhead ahead count → ahead ≡ number count (bits_ahead ahead count rest) * 2 ^ (64 - count)
unfolding bits_ahead
shown ahead count rest below is =
    let high : ahead / 2 ^ (64 - count) < 2 ^ count = shr_below ahead count (64 - count) (subst (λ k. ahead < 2 ^ k) {x = 64} {y = count + (64 - count)} (omega (arith, is.0)) below) in
    let whole : ahead ≡ ahead / 2 ^ (64 - count) * 2 ^ (64 - count) = omega (arith, shr_split ahead (64 - count), is.1) in
    whole ∙ ap (λ k. k * 2 ^ (64 - count)) (sym (number-digits count (ahead / 2 ^ (64 - count)) (bits_of rest) high))

behind : (ahead count : ℕ) (rest : List ℕ) → drop count (bits_ahead ahead count rest) ≡ bits_of rest
unfolding bits_ahead
behind ahead count rest = drop-digits count (ahead / 2 ^ (64 - count)) (bits_of rest)

long : (ahead count : ℕ) (rest : List ℕ) → length (bits_ahead ahead count rest) ≡ count + 8 * length rest
unfolding bits_ahead
long ahead count rest =
    omega (arith, length-append (digits count (ahead / 2 ^ (64 - count))) (bits_of rest), length-digits count (ahead / 2 ^ (64 - count)), length-bits_of rest)

-- a word that shows the first bits, before the bytes of the others
rejoined : (ahead count : ℕ) (rest : List ℕ) (bits : List Bool) → count ≤ 64 → ahead ≡ number count bits * 2 ^ (64 - count) → drop count bits ≡ bits_of rest → count ≤ length bits
    → (bits_ahead ahead count rest ≡ bits) × IsAhead ahead count
unfolding bits_ahead
rejoined ahead count rest bits h is same enough =
    let top : ahead / 2 ^ (64 - count) ≡ number count bits = ap (λ a. a / 2 ^ (64 - count)) is ∙ shl-shr (number count bits) (64 - count) in (
      ap (λ k. digits count k ++ bits_of rest) top
          ∙ ap (λ b. digits count (number count bits) ++ b) (sym same)
          ∙ digits-number count bits enough,
      (h, ap (λ a. a % 2 ^ (64 - count)) is ∙ mul-mod_left (number count bits) (2 ^ (64 - count))),
    )

no_bits : (rest : List ℕ) → rest ≡ [] → bits_of rest ≡ []
unfolding bits_of
no_bits rest e = ap bits_of e

-- no bits ahead
pub none_ahead : (rest : List ℕ) → bits_ahead 0 0 rest ≡ bits_of rest
unfolding bits_ahead digits
none_ahead rest = refl

-- past n of the bits ahead
pub past : (ahead count n : ℕ) (rest : List ℕ) → ahead < 2 ^ 64 → IsAhead ahead count → n ≤ count
    → (bits_ahead (ahead * 2 ^ n % 2 ^ 64) (count - n) rest ≡ drop n (bits_ahead ahead count rest)) × IsAhead (ahead * 2 ^ n % 2 ^ 64) (count - n)
past ahead count n rest below is h =
    let bits : List Bool = bits_ahead ahead count rest in
    rejoined (ahead * 2 ^ n % 2 ^ 64) (count - n) rest (drop n bits) (omega (arith, is.0))
    (rest_of ahead count n bits (shown ahead count rest below is) h is.0)
    (drop-drop (count - n) n bits ∙ ap (λ k. drop k bits) {y = count} (omega arith) ∙ behind ahead count rest)
    (omega (arith, length-drop n bits, long ahead count rest))

-- past more than those, where no bytes are behind them
past_all : (ahead count n : ℕ) (rest : List ℕ) → ahead < 2 ^ 64 → IsAhead ahead count → rest ≡ [] → count < n → n ≤ 64
    → (bits_ahead (ahead * 2 ^ n % 2 ^ 64) (count - n) rest ≡ drop n (bits_ahead ahead count rest)) × IsAhead (ahead * 2 ^ n % 2 ^ 64) (count - n)
past_all ahead count n rest below is no_bytes h most =
    let bits : List Bool = bits_ahead ahead count rest in
    let short : length bits ≤ count = omega (arith, long ahead count rest, ap length no_bytes) in
    let same : n - n ≡ count - n = omega arith in
    rejoined (ahead * 2 ^ n % 2 ^ 64) (count - n) rest (drop n bits) (omega arith)
    (subst (λ k. ahead * 2 ^ n % 2 ^ 64 ≡ number k (drop n bits) * 2 ^ (64 - k)) same
    (rest_of ahead n n bits (shown-more ahead count n bits (shown ahead count rest below is) short (omega arith) most) (omega arith) most))
    (ap (drop (count - n)) (drop_all n bits (omega arith)) ∙ drop_all (count - n) [] (omega arith) ∙ sym (no_bits rest no_bytes))
    (omega (arith, length-drop n bits))

-- past n bits, where no bytes are behind fewer
pub past_some : (ahead count n : ℕ) (rest : List ℕ) → ahead < 2 ^ 64 → IsAhead ahead count → n ≤ 57 → (count < n → rest ≡ [])
    → (bits_ahead (ahead * 2 ^ n % 2 ^ 64) (count - n) rest ≡ drop n (bits_ahead ahead count rest)) × IsAhead (ahead * 2 ^ n % 2 ^ 64) (count - n)
past_some ahead count n rest below is most enough =
    elim (leb_tells n count) [
      | inl here ↦ past ahead count n rest below is here.1
      | inr over ↦ past_all ahead count n rest below is (enough over.1) over.1 (omega arith)
    ]

-- the word shows the next n bits
pub ahead-shows : (ahead count n : ℕ) (rest : List ℕ) → ahead < 2 ^ 64 → IsAhead ahead count → n ≤ 57 → (count < n → rest ≡ []) → Shows n ahead (bits_ahead ahead count rest)
ahead-shows ahead count n rest below is most enough =
    let bits : List Bool = bits_ahead ahead count rest in
    elim (leb_tells n count) [
      | inl here ↦ value_of ahead count n bits (shown ahead count rest below is) here.1 is.0
      | inr over ↦
          let short : length bits ≤ count = omega (arith, long ahead count rest, ap length (enough over.1)) in
          value_of ahead n n bits (shown-more ahead count n bits (shown ahead count rest below is) short (omega (arith, over.1)) (omega arith)) (omega arith) (omega arith)
    ]

-- ---- bytes fetched

-- k bytes more
grown : (ahead count k : ℕ) (rest : List ℕ) → ahead < 2 ^ 64 → IsAhead ahead count → k ≤ length rest → count + 8 * k ≤ 64
    → (bits_ahead (ahead + number (8 * k) (bits_of rest) * 2 ^ (64 - (count + 8 * k))) (count + 8 * k) (drop k rest) ≡ bits_ahead ahead count rest)
    × IsAhead (ahead + number (8 * k) (bits_of rest) * 2 ^ (64 - (count + 8 * k))) (count + 8 * k)
grown ahead count k rest below is has fits =
    let bits : List Bool = bits_ahead ahead count rest in
    let s : ℕ = 64 - (count + 8 * k) in
    let all : number (count + 8 * k) bits * 2 ^ s ≡ ahead + number (8 * k) (bits_of rest) * 2 ^ s =
    ap (λ n. n * 2 ^ s) (number-split count (8 * k) bits)
    ∙ add-mul (number count bits * 2 ^ (8 * k)) (number (8 * k) (drop count bits)) (2 ^ s)
    ∙ ap (λ n. n + number (8 * k) (drop count bits) * 2 ^ s) (
    mul_assoc (number count bits) (2 ^ (8 * k)) (2 ^ s)
    ∙ ap (λ p. number count bits * p) (sym (pow-add 2 (8 * k) s) ∙ ap (λ j. 2 ^ j) {y = 64 - count} (omega arith))
    ∙ sym (shown ahead count rest below is)
    )
    ∙ ap (λ b. ahead + number (8 * k) b * 2 ^ s) (behind ahead count rest) in
    rejoined (ahead + number (8 * k) (bits_of rest) * 2 ^ s) (count + 8 * k) (drop k rest) bits fits
    (sym all)
    (sym (drop-drop (8 * k) count bits)
    ∙ ap (drop (8 * k)) (behind ahead count rest)
    ∙ drop-byte k rest)
    (omega (arith, long ahead count rest))

-- the same as the machine joins them
joined : (ahead count k next : ℕ) → ahead < 2 ^ 64 → IsAhead ahead count → next < 2 ^ (8 * k) → count + 8 * k ≤ 64
    → bit_or ahead (next * 2 ^ (64 - (count + 8 * k)) % 2 ^ 64) ≡ ahead + next * 2 ^ (64 - (count + 8 * k))
joined ahead count k next below is small fits =
    let s : ℕ = 64 - (count + 8 * k) in
    let whole : ahead / 2 ^ (64 - count) * 2 ^ (64 - count) ≡ ahead = omega (arith, shr_split ahead (64 - count), is.1) in
    let low : next * 2 ^ s < 2 ^ (64 - count) = subst (λ j. next * 2 ^ s < 2 ^ j) {x = 8 * k + s} {y = 64 - count} (omega arith) (shl_below next (8 * k) s small) in
    ap (bit_or ahead) (shl_whole next (8 * k) s 64 small (omega arith))
    ∙ ap (λ a. bit_or a (next * 2 ^ s)) (sym whole)
    ∙ or_shifted (ahead / 2 ^ (64 - count)) (64 - count) (next * 2 ^ s) low
    ∙ ap (λ a. a + next * 2 ^ s) whole

fetched : (ahead count k next : ℕ) (rest : List ℕ) → ahead < 2 ^ 64 → IsAhead ahead count → k ≤ length rest → count + 8 * k ≤ 64 → next ≡ number (8 * k) (bits_of rest)
    → (bits_ahead (bit_or ahead (next * 2 ^ (64 - (count + 8 * k)) % 2 ^ 64)) (count + 8 * k) (drop k rest) ≡ bits_ahead ahead count rest)
    × IsAhead (bit_or ahead (next * 2 ^ (64 - (count + 8 * k)) % 2 ^ 64)) (count + 8 * k)
fetched ahead count k next rest below is has fits e =
    let small : next < 2 ^ (8 * k) = omega (arith, number_below (8 * k) (bits_of rest)) in
    let same : ahead + number (8 * k) (bits_of rest) * 2 ^ (64 - (count + 8 * k)) ≡ bit_or ahead (next * 2 ^ (64 - (count + 8 * k)) % 2 ^ 64) =
    ap (λ n. ahead + n * 2 ^ (64 - (count + 8 * k))) (sym e) ∙ sym (joined ahead count k next below is small fits) in
    subst (λ a. (bits_ahead a (count + 8 * k) (drop k rest) ≡ bits_ahead ahead count rest) × IsAhead a (count + 8 * k)) same
    (grown ahead count k rest below is has fits)

-- what is behind k bytes, as a slice
tail_is : (k : ℕ) (rest : List ℕ) → take (length rest - k) (drop k rest) ≡ drop k rest
tail_is k rest = take_all (length rest - k) (drop k rest) (omega (arith, length-drop k rest))

-- the first k of eight bytes
first_bytes : (k word : ℕ) (rest : List ℕ) → k ≤ 8 → word ≡ number 64 (bits_of rest) → word / 2 ^ (64 - 8 * k) ≡ number (8 * k) (bits_of rest)
first_bytes k word rest h is =
    ap (λ w. w / 2 ^ (64 - 8 * k)) is
    ∙ ap (λ n. number n (bits_of rest) / 2 ^ (64 - 8 * k)) {y = 8 * k + (64 - 8 * k)} (omega arith)
    ∙ number_top (8 * k) (64 - 8 * k) (bits_of rest)

-- one byte more
pub one_byte : (ahead count next : ℕ) (rest : List ℕ) → ahead < 2 ^ 64 → IsAhead ahead count → next ≡ get_or rest 0 0 → next < 256 → 0 < length rest → count < 57
    → (bits_ahead (bit_or ahead (next * 2 ^ (56 - count) % 2 ^ 64)) (count + 8) (take (length rest - 1) (drop 1 rest)) ≡ bits_ahead ahead count rest)
    × IsAhead (bit_or ahead (next * 2 ^ (56 - count) % 2 ^ 64)) (count + 8)
one_byte ahead count next rest below is e fits has few =
    let all = fetched ahead count 1 next rest below is (omega arith) (omega arith) (e ∙ sym (next-byte rest (omega arith))) in
    let same : 64 - (count + 8) ≡ 56 - count = omega arith in
    subst (λ tail. (bits_ahead (bit_or ahead (next * 2 ^ (56 - count) % 2 ^ 64)) (count + 8) tail ≡ bits_ahead ahead count rest) × IsAhead (bit_or ahead (next * 2 ^ (56 - count) % 2 ^ 64)) (count + 8))
    (sym (tail_is 1 rest))
    (subst (λ k. (bits_ahead (bit_or ahead (next * 2 ^ k % 2 ^ 64)) (count + 8) (drop 1 rest) ≡ bits_ahead ahead count rest) × IsAhead (bit_or ahead (next * 2 ^ k % 2 ^ 64)) (count + 8)) same all)

-- as many of eight bytes as there is room for
pub eight_bytes : (ahead count word : ℕ) (rest : List ℕ) → ahead < 2 ^ 64 → IsAhead ahead count → 8 ≤ length rest → word ≡ number 64 (bits_of rest)
    → (bits_ahead (bit_or ahead (word / 2 ^ (64 - 8 * ((64 - count) / 8)) * 2 ^ (64 - count - 8 * ((64 - count) / 8)) % 2 ^ 64)) (count + 8 * ((64 - count) / 8)) (take (length rest - (64 - count) / 8) (drop ((64 - count) / 8) rest)) ≡ bits_ahead ahead count rest)
    × IsAhead (bit_or ahead (word / 2 ^ (64 - 8 * ((64 - count) / 8)) * 2 ^ (64 - count - 8 * ((64 - count) / 8)) % 2 ^ 64)) (count + 8 * ((64 - count) / 8))
eight_bytes ahead count word rest below is has e =
    let k : ℕ = (64 - count) / 8 in
    let next : ℕ = word / 2 ^ (64 - 8 * k) in
    let all = fetched ahead count k next rest below is (omega arith) (omega (arith, is.0)) (first_bytes k word rest (omega arith) e) in
    let same : 64 - (count + 8 * k) ≡ 64 - count - 8 * k = omega arith in
    subst (λ tail. (bits_ahead (bit_or ahead (next * 2 ^ (64 - count - 8 * k) % 2 ^ 64)) (count + 8 * k) tail ≡ bits_ahead ahead count rest) × IsAhead (bit_or ahead (next * 2 ^ (64 - count - 8 * k) % 2 ^ 64)) (count + 8 * k))
    (sym (tail_is k rest))
    (subst (λ j. (bits_ahead (bit_or ahead (next * 2 ^ j % 2 ^ 64)) (count + 8 * k) (drop k rest) ≡ bits_ahead ahead count rest) × IsAhead (bit_or ahead (next * 2 ^ j % 2 ^ 64)) (count + 8 * k)) same all)

-- ---- ones and zeros ahead

zero-behind : (bits : List Bool) → first (drop (ones bits) bits) ≡ false
zero-behind [] = refl
zero-behind (false ∷ bits) = refl
zero-behind (true ∷ bits) = zero-behind bits

number-zero : (n : ℕ) (bits : List Bool) → first bits ≡ false → number (1 + n) bits ≡ number n (drop 1 bits)
unfolding number
number-zero n bits e =
    ap (λ k. number k bits) {x = 1 + n} {y = suc n} (omega arith)
    ∙ ap (λ b. cond b (2 ^ n) 0 + number n (drop 1 bits)) e
    ∙ omega arith

-- ones, their zero and n bits behind it, where all of them are ahead
pub ones_then : (ahead count n o : ℕ) (rest : List ℕ) → ahead < 2 ^ 64 → IsAhead ahead count → o ≡ Int.leading_ones w64 ahead → o + 1 + n ≤ count
    → (o ≡ ones (bits_ahead ahead count rest))
    × (ahead * 2 ^ o % 2 ^ 64 / 2 ^ (63 - n) ≡ number n (drop (suc (ones (bits_ahead ahead count rest))) (bits_ahead ahead count rest)))
    × (bits_ahead (ahead * 2 ^ o % 2 ^ 64 * 2 ^ (1 + n) % 2 ^ 64) (count - (o + 1 + n)) rest ≡ drop n (drop (suc (ones (bits_ahead ahead count rest))) (bits_ahead ahead count rest)))
    × IsAhead (ahead * 2 ^ o % 2 ^ 64 * 2 ^ (1 + n) % 2 ^ 64) (count - (o + 1 + n))
ones_then ahead count n o rest below is e h =
    let bits : List Bool = bits_ahead ahead count rest in
    let first_count : Int.leading_ones w64 ahead ≡ min count (ones bits) = ap (Int.leading_ones w64) (shown ahead count rest below is) ∙ ones_at_top count bits is.0 in
    let same : o ≡ ones bits = omega arith in
    let mid : ℕ = ahead * 2 ^ o % 2 ^ 64 in
    let one = past ahead count o rest below is (omega arith) in
    let mid_below : mid < 2 ^ 64 = omega arith in
    let two = past mid (count - o) (1 + n) rest mid_below one.1 (omega arith) in
    let fewer : count - o - (1 + n) ≡ count - (o + 1 + n) = omega arith in
    let next : drop 1 (drop o bits) ≡ drop (suc (ones bits)) bits = drop-drop 1 o bits ∙ ap (λ k. drop k bits) {y = suc (ones bits)} (omega arith) in
    let zero_there : first (drop o bits) ≡ false = ap (λ k. first (drop k bits)) same ∙ zero-behind bits in (
      same,
      ap (λ k. mid / 2 ^ k) {y = 64 - (1 + n)} (omega (arith, is.0))
          ∙ value_of mid (count - o) (1 + n) (drop o bits) (shown mid (count - o) rest mid_below one.1 ∙ ap (λ b. number (count - o) b * 2 ^ (64 - (count - o))) one.0) (omega arith) (omega (arith, is.0))
          ∙ number-zero n (drop o bits) zero_there
          ∙ ap (number n) next,
      ap (λ k. bits_ahead (mid * 2 ^ (1 + n) % 2 ^ 64) k rest) (sym fewer)
          ∙ two.0
          ∙ ap (drop (1 + n)) one.0
          ∙ sym (drop-drop n 1 (drop o bits))
          ∙ ap (drop n) next,
      subst (λ k. IsAhead (mid * 2 ^ (1 + n) % 2 ^ 64) k) fewer two.1,
    )

-- zeros ahead
zeros_ahead : (ahead count z n : ℕ) (rest : List ℕ) → ahead < 2 ^ 64 → IsAhead ahead count → z ≡ count_leading_zeros 64 ahead → n ≤ z → n ≤ count
    → Spelled (bits_ahead ahead count rest) (replicate n false) (drop n (bits_ahead ahead count rest))
zeros_ahead ahead count z n rest below is e h low =
    zeros_at_top count (bits_ahead ahead count rest) (min z count) n is.0
    (ap (λ k. min k count) (e ∙ ap (count_leading_zeros 64) (shown ahead count rest below is))) (omega arith)

-- and the one behind them
one_ahead : (ahead count z : ℕ) (rest : List ℕ) → ahead < 2 ^ 64 → IsAhead ahead count → z ≡ count_leading_zeros 64 ahead → z < count
    → first (drop z (bits_ahead ahead count rest)) ≡ true
one_ahead ahead count z rest below is e h =
    one_at_top count (bits_ahead ahead count rest) z is.0
    (omega (arith, e ∙ ap (count_leading_zeros 64) (shown ahead count rest below is))) h

-- past them and the one
pub past_one : (ahead count z : ℕ) (rest : List ℕ) → ahead < 2 ^ 64 → IsAhead ahead count → z < count
    → (bits_ahead (ahead * 2 ^ z % 2 ^ 64 * 2 ^ 1 % 2 ^ 64) (count - (z + 1)) rest ≡ drop 1 (drop z (bits_ahead ahead count rest)))
    × IsAhead (ahead * 2 ^ z % 2 ^ 64 * 2 ^ 1 % 2 ^ 64) (count - (z + 1))
past_one ahead count z rest below is h =
    let mid : ℕ = ahead * 2 ^ z % 2 ^ 64 in
    let one = past ahead count z rest below is (omega arith) in
    let mid_below : mid < 2 ^ 64 = omega arith in
    let two = past mid (count - z) 1 rest mid_below one.1 (omega arith) in
    let fewer : count - z - 1 ≡ count - (z + 1) = omega arith in (
      ap (λ k. bits_ahead (mid * 2 ^ 1 % 2 ^ 64) k rest) (sym fewer) ∙ two.0 ∙ ap (drop 1) one.0,
      subst (λ k. IsAhead (mid * 2 ^ 1 % 2 ^ 64) k) fewer two.1,
    )

-- zeros ahead that a one ends
pub zeros_then_one : (ahead count z most : ℕ) (rest : List ℕ) → ahead < 2 ^ 64 → IsAhead ahead count → z ≡ count_leading_zeros 64 ahead → z < count → z < most
    → Spelled (bits_ahead ahead count rest) (zeros_code most z) (bits_ahead (ahead * 2 ^ z % 2 ^ 64 * 2 ^ 1 % 2 ^ 64) (count - (z + 1)) rest)
zeros_then_one ahead count z most rest below is e h fewer =
    let bits : List Bool = bits_ahead ahead count rest in
    subst (Spelled bits (zeros_code most z)) (sym (past_one ahead count z rest below is h).0)
    (ends-read bits (drop z bits) most z fewer (zeros_ahead ahead count z z rest below is e (omega arith) (omega arith)) (one_ahead ahead count z rest below is e h))

-- as many as are asked for
pub all_zeros : (ahead count z most : ℕ) (rest : List ℕ) → ahead < 2 ^ 64 → IsAhead ahead count → z ≡ count_leading_zeros 64 ahead → most ≤ z → most < count
    → Spelled (bits_ahead ahead count rest) (zeros_code most most) (bits_ahead (ahead * 2 ^ most % 2 ^ 64) (count - most) rest)
all_zeros ahead count z most rest below is e h fewer =
    let bits : List Bool = bits_ahead ahead count rest in
    subst (Spelled bits (zeros_code most most)) (sym (past ahead count most rest below is (omega arith)).0)
    (most-read bits (drop most bits) most most refl (zeros_ahead ahead count z most rest below is e h (omega arith)))

-- a word with as many bytes behind it as there is room for shows the next n bits
pub filled-shows : (ahead count word n : ℕ) (rest : List ℕ) → ahead < 2 ^ 64 → IsAhead ahead count → 8 ≤ length rest → word ≡ number 64 (bits_of rest) → count ≤ 56 → n ≤ 57
    → Shows n (bit_or ahead (word / 2 ^ (64 - 8 * ((64 - count) / 8)) * 2 ^ (64 - count - 8 * ((64 - count) / 8)) % 2 ^ 64)) (bits_ahead ahead count rest)
filled-shows ahead count word n rest below is has e few most =
    let k : ℕ = (64 - count) / 8 in
    let next : ℕ = word / 2 ^ (64 - 8 * k) * 2 ^ (64 - count - 8 * k) % 2 ^ 64 in
    let all = eight_bytes ahead count word rest below is has e in
    let fits : bit_or ahead next < 2 ^ 64 = Fits-lt-pow (Fits-or {w = w64} (record { fits = below }) (record { fits = omega arith })) in
    ahead-shows (bit_or ahead next) (count + 8 * k) n (take (length rest - k) (drop k rest)) fits all.1 most (λ h. absurd (omega arith))
    ∙ ap (number n) all.0
