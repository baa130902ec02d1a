-- The sum of a pair and its first number, as the decoder reads them: by one look, or part by part.
use Rattle.std.proofs.Common.{◌≡◌, ℕ, suc, ◌+◌, ◌-◌, ◌*◌, ◌/◌, ◌%◌, ◌^◌, ◌<◌, ◌≤◌, Bool, List, [], length, drop, sym, ap, ◌∙◌, arith, min}
use Rattle.std.proofs.Math.Nat.{mul-le-mul_right}
use Rattle.std.proofs.Math.Pow.{pow_mono}
use Rattle.std.proofs.lemmas.List.{append-nil, drop-drop}
use Rattle.std.proofs.lemmas.Nat.{shl_below, shl_whole, shr_below}
use Rattle.gfx_bits.specs.Ahead.{Shows}
use Rattle.gfx_bits.specs.Bits.{number, digits, ones}
use Rattle.gfx_bits.proofs.Laws.{number-split, number_below, number-digits, length-ones}

-- ---- a long number, in three parts

abbrev high : ℕ → ℕ
high n = n / 3

abbrev middle : ℕ → ℕ
middle n = (n - high n) / 2

abbrev low : ℕ → ℕ
low n = n - high n - middle n

parts-join : (a b d x y z : ℕ) (bits : List Bool) → x < 2 ^ 32 → y < 2 ^ 32 → b + d ≤ 96
    → x ≡ number a bits → y ≡ number b (drop a bits) → z ≡ number d (drop b (drop a bits))
    → x * 2 ^ (b + d) % 2 ^ 128 + (y * 2 ^ d % 2 ^ 128 + z) ≡ number (a + (b + d)) bits
parts-join a b d x y z bits x-small y-small both e f g =
    rw (shl_whole x 32 (b + d) 128 x-small (omega arith), shl_whole y 32 d 128 y-small (omega arith), e, f, g)
    (sym (number-split a (b + d) bits ∙ ap (λ n. number a bits * 2 ^ (b + d) + n) (number-split b d (drop a bits))))

-- as the machine joins them
pub joined : (n x y z : ℕ) (bits one two : List Bool) → n ≤ 96 → x < 2 ^ 32 → y < 2 ^ 32
    → x ≡ number (high n) bits → one ≡ drop (high n) bits → y ≡ number (middle n) one → two ≡ drop (middle n) one → z ≡ number (low n) two
    → (x * 2 ^ (middle n + low n) % 2 ^ 128 + (y * 2 ^ low n % 2 ^ 128 + z) ≡ number n bits)
    × (x * 2 ^ (middle n + low n) % 2 ^ 128 + (y * 2 ^ low n % 2 ^ 128 + z) < 2 ^ 96)
joined n x y z bits one two most x-small y-small e f g h i =
    let second : y ≡ number (middle n) (drop (high n) bits) = g ∙ ap (number (middle n)) f in
    let third : z ≡ number (low n) (drop (middle n) (drop (high n) bits)) = i ∙ ap (number (low n)) (h ∙ ap (drop (middle n)) f) in
    let whole : x * 2 ^ (middle n + low n) % 2 ^ 128 + (y * 2 ^ low n % 2 ^ 128 + z) ≡ number n bits =
    parts-join (high n) (middle n) (low n) x y z bits x-small y-small (omega (arith, most)) e second third
    ∙ ap (λ k. number k bits) {x = high n + (middle n + low n)} {y = n} (omega arith) in
    let bound : 2 ^ n ≤ 2 ^ 96 = pow_mono most in
    (whole, omega (arith, whole, bound, number_below n bits))

-- ---- a sum

-- a word shows its own bits
pub word-shows : (word : ℕ) → word < 2 ^ 64 → Shows 57 word (digits 57 (word / 2 ^ 7))
word-shows word small =
    sym (number-digits 57 (word / 2 ^ 7) [] (shr_below word 57 7 small)) ∙ ap (number 57) (append-nil (digits 57 (word / 2 ^ 7)))

-- few ones and low bits are a small sum
pub looked-small : (found low n : ℕ) → found < 32 → low ≤ 10 → n < 2 ^ low → found * 2 ^ low % 2 ^ 32 + n < 2 ^ 15
looked-small found low n few small below =
    let plain : found * 2 ^ low % 2 ^ 32 ≡ found * 2 ^ low = shl_whole found 5 low 32 (omega arith) (omega arith) in
    let most : 2 ^ low ≤ 2 ^ 10 = pow_mono small in
    let high : found * 2 ^ low ≤ 31 * 2 ^ low = mul-le-mul_right (2 ^ low) (omega arith) in
    omega (arith, plain, most, below, high)

-- the low bits that a word shows are below so much
pub low-below : (low n : ℕ) (bits : List Bool) → n ≡ number low bits → n < 2 ^ low
low-below low n bits is = omega (arith, is, number_below low bits)

pub looked-sum : (found low n : ℕ) (bits : List Bool) → found ≡ min 57 (ones bits) → found < 32 → low ≤ 10 → n ≡ number low (drop (found + 1) bits)
    → found * 2 ^ low % 2 ^ 32 + n ≡ ones bits * 2 ^ low + number low (drop (suc (ones bits)) bits)
looked-sum found low n bits are few small is =
    let all : found ≡ ones bits = omega (arith, are, few) in
    let place : found + 1 ≡ suc (ones bits) = omega arith in
    ap (λ m. m + n) (shl_whole found 5 low 32 (omega arith) (omega arith))
    ∙ ap (λ m. m * 2 ^ low + n) all
    ∙ ap (λ m. ones bits * 2 ^ low + m) (is ∙ ap (λ k. number low (drop k bits)) place)

-- a long sum
pub long-sum : (count low n : ℕ) (old rest : List Bool) → count ≡ ones old → count < 2 ^ 67 → low ≤ 10 → rest ≡ drop (suc (ones old)) old → n ≡ number low rest
    → (count * 2 ^ low % 2 ^ 128 + n ≡ ones old * 2 ^ low + number low (drop (suc (ones old)) old)) × (count * 2 ^ low % 2 ^ 128 + n < 2 ^ 78)
long-sum count low n old rest are few small on is =
    let plain : count * 2 ^ low % 2 ^ 128 ≡ count * 2 ^ low = shl_whole count 67 low 128 few (omega arith) in
    let most : 2 ^ (67 + low) ≤ 2 ^ 77 = let h : 67 + low ≤ 77 = omega arith in pow_mono h in
    let part : 2 ^ low ≤ 2 ^ 10 = pow_mono small in (
      ap (λ m. m + n) plain ∙ ap (λ m. m * 2 ^ low + n) are ∙ ap (λ m. ones old * 2 ^ low + m) (is ∙ ap (number low) on),
      omega (arith, plain, most, part, is, shl_below count 67 low few, number_below low rest),
    )

-- a count of ones is not more than the bits
pub few-counted : (count : ℕ) (bits : List Bool) → count ≡ ones bits → length bits < 2 ^ 67 → count < 2 ^ 67
few-counted count bits are short = omega (arith, are, short, length-ones bits)

-- ---- where the reader stands

-- behind a sum that a word shows
pub behind-sum : (found low : ℕ) (bits : List Bool) → found ≡ min 57 (ones bits) → found < 32 → drop (found + 1 + low) bits ≡ drop low (drop (suc (ones bits)) bits)
behind-sum found low bits are few =
    ap (λ k. drop k bits) {y = suc (ones bits) + low} (omega (arith, are, few)) ∙ sym (drop-drop low (suc (ones bits)) bits)

-- behind the first number
pub behind-both : (at width : ℕ) (old peeked new : List Bool) → peeked ≡ old → new ≡ drop (at + width) peeked → new ≡ drop width (drop at old)
behind-both at width old peeked new same on = on ∙ ap (drop (at + width)) same ∙ sym (drop-drop width at old)
