-- What a writer keeps, and what it sends on to memory.
use Rattle.std.proofs.Common.{◌≡◌, Result, Ok, Err, OnErr, ℕ, zero, suc, ◌+◌, ◌-◌, ◌*◌, ◌/◌, ◌%◌, ◌^◌, ◌<◌, ◌≤◌, Bool, true, false, List, [], ◌∷◌, ◌++◌, length, length-append, take, refl, sym, ap, ◌∙◌, arith, append_assoc, replicate}
use Rattle.std.specs.Int.{w32, to_be_bytes}
use Rattle.std.specs.Prelude.{bit_and, bit_or}
use Rattle.std.proofs.Math.Seq.{take-append-add, take-append_seam}
use Rattle.std.proofs.lemmas.List.{append-nil, replicate-append-replicate, take-replicate, take-append-le}
use Rattle.std.proofs.lemmas.Nat.{pow_pos, mod_below, pow-add, shl_whole, or_shifted, mul-add-lt, shr_split, shr_below, one_shl, and_mask, shl_below, mod_low}
use Rattle.std.proofs.lemmas.Bool.{lt-leb, le-leb}
use Rattle.gfx_bits.specs.Bits.{digits, bits_of, IsPadded}
use Rattle.gfx_bits.proofs.Laws.{doubled, digits-join, length-digits, bits_of-append, length-bits_of}

-- a number as its high and its low digits
cut : (m n value : ℕ) → value < 2 ^ (m + n) → digits (m + n) value ≡ digits m (value / 2 ^ n) ++ digits n (value % 2 ^ n)
cut m n value h =
    ap (λ k. digits (m + n) k) (sym (shr_split value n))
    ∙ digits-join m n (value / 2 ^ n) (value % 2 ^ n) (shr_below value m n h) (mod_below value (2 ^ n) (pow_pos n))

-- 32 digits are four bytes
word-bytes : (word : ℕ) → word < 2 ^ 32 → digits 32 word ≡ bits_of (to_be_bytes w32 word)
unfolding bits_of
word-bytes word h =
    cut 8 24 word h
    ∙ ap (λ b. digits 8 (word / 2 ^ 24) ++ b) (cut 8 16 (word % 2 ^ 24) (omega arith))
    ∙ ap (λ b. digits 8 (word / 2 ^ 24) ++ (digits 8 (word % 2 ^ 24 / 2 ^ 16) ++ b)) (cut 8 8 (word % 2 ^ 24 % 2 ^ 16) (omega arith))
    ∙ bytes_are (word / 2 ^ 24) (word % 2 ^ 24 / 2 ^ 16) (word % 2 ^ 24 % 2 ^ 16 / 2 ^ 8) (word % 2 ^ 24 % 2 ^ 16 % 2 ^ 8)
    (word / 16777216 % 256) (word / 65536 % 256) (word / 256 % 256) (word % 256) (omega arith) (omega arith) (omega arith) (omega arith)
  where
    bytes_are : (a b c d a' b' c' d' : ℕ) → a ≡ a' → b ≡ b' → c ≡ c' → d ≡ d'
        → digits 8 a ++ (digits 8 b ++ (digits 8 c ++ digits 8 d)) ≡ bits_of (a' ∷ b' ∷ c' ∷ d' ∷ [])
    bytes_are a b c d a' b' c' d' p q r s = rw (p, q, r, s, append-nil (digits 8 d')) refl

-- ---- push

pub all_is : (pending n value count : ℕ) → pending < 2 ^ count → value < 2 ^ n → count + n < 64 → bit_or (pending * 2 ^ n % 2 ^ 64) value ≡ pending * 2 ^ n + value
all_is pending n value count p v h =
    ap (λ k. bit_or k value) (shl_whole pending count n 64 p (omega arith)) ∙ or_shifted pending n value v

pub all_below : (pending n value count : ℕ) → pending < 2 ^ count → value < 2 ^ n → pending * 2 ^ n + value < 2 ^ (count + n)
all_below pending n value count p v = omega (arith, mul-add-lt pending (2 ^ n) value (2 ^ count) p v, pow-add 2 count n)

word_all : (pending n value count : ℕ) → pending < 2 ^ count → value < 2 ^ n → 32 ≤ count + n → count + n < 64 → bit_or (pending * 2 ^ n % 2 ^ 64) value < 2 ^ (32 + (count + n - 32))
word_all pending n value count p v low high =
    let same : 2 ^ (count + n) ≡ 2 ^ (32 + (count + n - 32)) = ap (λ k. 2 ^ k) {y = 32 + (count + n - 32)} (omega arith) in
    omega (arith, all_is pending n value count p v high, all_below pending n value count p v)

pub word_high : (pending n value count : ℕ) → pending < 2 ^ count → value < 2 ^ n → 32 ≤ count + n → count + n < 64 → bit_or (pending * 2 ^ n % 2 ^ 64) value / 2 ^ (count + n - 32) < 2 ^ 32
word_high pending n value count p v low high =
    shr_below (bit_or (pending * 2 ^ n % 2 ^ 64) value) 32 (count + n - 32) (word_all pending n value count p v low high)

-- what stays in the writer
pub kept : (items : List ℕ) (now : List Bool) (pending n value count : ℕ) → pending < 2 ^ count → value < 2 ^ n → count + n < 64
    → bits_of items ++ digits count pending ≡ now
    → bits_of items ++ digits (count + n) (bit_or (pending * 2 ^ n % 2 ^ 64) value) ≡ now ++ digits n value
kept items now pending n value count p v h is =
    ap (λ k. bits_of items ++ digits (count + n) k) (all_is pending n value count p v h)
    ∙ ap (λ b. bits_of items ++ b) (digits-join count n pending value p v)
    ∙ sym (append_assoc (bits_of items) (digits count pending) (digits n value))
    ∙ ap (λ b. b ++ digits n value) is

-- what is left of a number when its 32 high digits have gone on
pub sent : (items : List ℕ) (all rest : ℕ) → all < 2 ^ (32 + rest) → rest < 64
    → bits_of (items ++ to_be_bytes w32 (all / 2 ^ rest)) ++ digits rest (bit_and all (1 * 2 ^ rest % 2 ^ 64 - 1)) ≡ bits_of items ++ digits (32 + rest) all
sent items all rest below h =
    ap (λ k. bits_of (items ++ to_be_bytes w32 (all / 2 ^ rest)) ++ digits rest k) (ap (λ m. bit_and all (m - 1)) (one_shl rest 64 h) ∙ and_mask all rest)
    ∙ ap (λ b. b ++ digits rest (all % 2 ^ rest)) (bits_of-append items (to_be_bytes w32 (all / 2 ^ rest)))
    ∙ append_assoc (bits_of items) (bits_of (to_be_bytes w32 (all / 2 ^ rest))) (digits rest (all % 2 ^ rest))
    ∙ ap (λ b. bits_of items ++ (b ++ digits rest (all % 2 ^ rest))) (sym (word-bytes (all / 2 ^ rest) (shr_below all 32 rest below)))
    ∙ ap (λ b. bits_of items ++ b) (sym (cut 32 rest all below))

-- what a write that fills a word leaves
pub pushed : (items : List ℕ) (now : List Bool) (pending n value count : ℕ) → pending < 2 ^ count → value < 2 ^ n → 32 ≤ count + n → count + n < 64
    → bits_of items ++ digits count pending ≡ now
    → bits_of (items ++ to_be_bytes w32 (bit_or (pending * 2 ^ n % 2 ^ 64) value / 2 ^ (count + n - 32)))
    ++ digits (count + n - 32) (bit_and (bit_or (pending * 2 ^ n % 2 ^ 64) value) (1 * 2 ^ (count + n - 32) % 2 ^ 64 - 1))
    ≡ now ++ digits n value
pushed items now pending n value count p v low high is =
    sent items (bit_or (pending * 2 ^ n % 2 ^ 64) value) (count + n - 32) (word_all pending n value count p v low high) (omega arith)
    ∙ ap (λ k. bits_of items ++ digits k (bit_or (pending * 2 ^ n % 2 ^ 64) value)) {y = count + n} (omega arith)
    ∙ kept items now pending n value count p v high is

-- ---- ones

pub digits-ones : (n : ℕ) → digits n (2 ^ n - 1) ≡ replicate n true
unfolding digits
digits-ones zero = refl
digits-ones (suc n) =
    ap (λ b. b ∷ digits n ((2 ^ suc n - 1) % 2 ^ n)) (le-leb (2 ^ n) (2 ^ suc n - 1) (omega (arith, doubled n, pow_pos n)))
    ∙ ap (λ k. true ∷ digits n k) (ap (λ k. k % 2 ^ n) {y = 1 * 2 ^ n + (2 ^ n - 1)} (omega (arith, doubled n, pow_pos n)) ∙ mod_low 1 n (2 ^ n - 1) (omega (arith, pow_pos n)))
    ∙ ap (λ b. true ∷ b) (digits-ones n)

-- some ones more
pub more_ones : (old : List Bool) (m n : ℕ) → (old ++ replicate m true) ++ digits n (2 ^ n - 1) ≡ old ++ replicate (m + n) true
more_ones old m n =
    append_assoc old (replicate m true) (digits n (2 ^ n - 1))
    ∙ ap (λ b. old ++ (replicate m true ++ b)) (digits-ones n)
    ∙ ap (λ b. old ++ b) (replicate-append-replicate m n true)

-- ---- finish

take-bytes : (k : ℕ) (bytes : List ℕ) → bits_of (take k bytes) ≡ take (8 * k) (bits_of bytes)
unfolding bits_of
take-bytes zero bytes = refl
take-bytes (suc k) [] = take-none (8 * suc k)
  where
    take-none : (n : ℕ) → [] ≡ take {A = Bool} n []
    take-none zero = refl
    take-none (suc n) = refl
take-bytes (suc k) (x ∷ bytes) =
    ap (λ b. digits 8 x ++ b) (take-bytes k bytes)
    ∙ sym (take-append-add (digits 8 x) (bits_of bytes) (8 * k))
    ∙ ap (λ n. take n (digits 8 x ++ bits_of bytes)) {y = 8 * suc k} (omega (arith, length-digits 8 x))

digits-zero : (n : ℕ) → digits n 0 ≡ replicate n false
unfolding digits
digits-zero zero = refl
digits-zero (suc n) =
    ap (λ b. b ∷ digits n (0 % 2 ^ n)) (lt-leb (2 ^ n) 0 (pow_pos n))
    ∙ ap (λ k. false ∷ digits n k) (ap (λ k. k % 2 ^ n) {x = 0} {y = 0 * 2 ^ n + 0} (omega arith) ∙ mod_low 0 n 0 (pow_pos n))
    ∙ ap (λ b. false ∷ b) (digits-zero n)

-- the front of a word is the digits, and zeros
front : (pending count n : ℕ) → count ≤ n → n ≤ 32 → pending < 2 ^ count
    → take n (digits 32 (pending * 2 ^ (32 - count) % 2 ^ 64)) ≡ digits count pending ++ replicate (n - count) false
front pending count n low high p =
    ap (λ k. take n (digits 32 k)) {y = pending * 2 ^ (32 - count) + 0} (shl_whole pending count (32 - count) 64 p (omega arith) ∙ omega arith)
    ∙ ap (λ k. take n (digits k (pending * 2 ^ (32 - count) + 0))) {y = count + (32 - count)} (omega arith)
    ∙ ap (take n) (digits-join count (32 - count) pending 0 p (pow_pos (32 - count)) ∙ ap (λ b. digits count pending ++ b) (digits-zero (32 - count)))
    ∙ ap (λ k. take k (digits count pending ++ replicate (32 - count) false)) {y = length (digits count pending) + (n - count)} (omega (arith, length-digits count pending))
    ∙ take-append-add (digits count pending) (replicate (32 - count) false) (n - count)
    ∙ ap (λ b. digits count pending ++ b) (take-replicate (n - count) (32 - count) false (omega arith))

pub word_below : (pending count : ℕ) → count < 32 → pending < 2 ^ count → pending * 2 ^ (32 - count) % 2 ^ 64 < 2 ^ 32
word_below pending count h p =
    rw (shl_whole pending count (32 - count) 64 p (omega arith))
    (let below : pending * 2 ^ (32 - count) < 2 ^ (count + (32 - count)) = shl_below pending count (32 - count) p in
    let same : 2 ^ (count + (32 - count)) ≡ 2 ^ 32 = ap (λ k. 2 ^ k) {y = 32} (omega arith) in
    omega arith)

pub padded : (items : List ℕ) (now : List Bool) (pending count : ℕ) → count < 32 → pending < 2 ^ count
    → bits_of items ++ digits count pending ≡ now
    → IsPadded now (items ++ take ((count + 7) / 8) (to_be_bytes w32 (pending * 2 ^ (32 - count) % 2 ^ 64)))
padded items now pending count h p is =
    let word : ℕ = pending * 2 ^ (32 - count) % 2 ^ 64 in
    let whole : ℕ = (count + 7) / 8 in (
      8 * whole - count,
      omega arith,
      bits_of-append items (take whole (to_be_bytes w32 word))
          ∙ ap (λ b. bits_of items ++ b) (take-bytes whole (to_be_bytes w32 word) ∙ ap (take (8 * whole)) (sym (word-bytes word (word_below pending count h p))) ∙ front pending count (8 * whole) (omega arith) (omega arith) p)
          ∙ sym (append_assoc (bits_of items) (digits count pending) (replicate (8 * whole - count) false))
          ∙ ap (λ b. b ++ replicate (8 * whole - count) false) is,
    )

-- ---- what was written is taken back

-- bytes at the front, and bits behind them that are less than a word, before more bits
pub taken-back : (items bytes : List ℕ) (now more : List Bool) (pending count kept held whole : ℕ) → count < 32 → held < 32 → length items % 4 ≡ 0 → whole % 4 ≡ 0
    → bits_of items ++ digits count pending ≡ now → length bytes ≡ whole → now ≡ (bits_of bytes ++ digits held kept) ++ more
    → bits_of (take whole items) ≡ bits_of bytes
taken-back items bytes now more pending count kept held whole p q fours four is long e =
    let all : length now ≡ 8 * length items + count =
    sym (ap length is) ∙ omega (arith, length-append (bits_of items) (digits count pending), length-bits_of items, length-digits count pending) in
    let parts : length now ≡ 8 * whole + held + length more =
    ap length e ∙ omega (arith, length-append (bits_of bytes ++ digits held kept) more, length-append (bits_of bytes) (digits held kept), length-bits_of bytes, length-digits held kept) in
    let within : 8 * whole ≤ length (bits_of items) = omega (arith, length-bits_of items) in
    take-bytes whole items
    ∙ sym (take-append-le (8 * whole) (bits_of items) (digits count pending) within)
    ∙ ap (take (8 * whole)) (is ∙ e ∙ append_assoc (bits_of bytes) (digits held kept) more)
    ∙ ap (λ n. take n (bits_of bytes ++ (digits held kept ++ more))) {y = length (bits_of bytes)} (omega (arith, length-bits_of bytes))
    ∙ take-append_seam (bits_of bytes) (digits held kept ++ more)

pub on_err-always : {A E : Type 0} (r : Result A E) (P : Type 0) → P → OnErr r P
on_err-always (Ok x) P p = tt
on_err-always (Err e) P p = p
