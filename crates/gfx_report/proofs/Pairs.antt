-- A table of the two digits of each byte.
use Rattle.std.proofs.Common.{◌≡◌, ℕ, ◌+◌, ◌*◌, ◌/◌, ◌%◌, ◌<◌, zero, suc, List, [], ◌∷◌, length, get_or, ap, ◌∙◌, refl, arith}
use Rattle.std.specs.List.{range_with_len}
use Rattle.std.proofs.lemmas.List.FromFn.{length-range_with_len, get_or-range_with_len}
use Rattle.hex.specs.Hex.{encode_with, encode_lower, lower_digits}

-- the digits of a list's bytes stand in pairs
record Pair (t xs : List ℕ) (i : ℕ) : Type 0 where
  high : get_or (encode_with t xs) (2 * i) 0 ≡ get_or t (get_or xs i 0 / 16) 0
  low : get_or (encode_with t xs) (2 * i + 1) 0 ≡ get_or t (get_or xs i 0 % 16) 0

pair_at : (t xs : List ℕ) (i : ℕ) → i < length xs → Pair t xs i
unfolding encode_with
pair_at t [] i below = absurd (omega arith)
pair_at t (b ∷ rest) zero below = record { high = refl; low = refl }
pair_at t (b ∷ rest) (suc i) below =
    let later = pair_at t rest i (omega arith) in
    let high_at : 2 * suc i ≡ suc (suc (2 * i)) = omega arith in
    let low_at : 2 * suc i + 1 ≡ suc (suc (2 * i + 1)) = omega arith in
    record {
      high = ap (λ k. get_or (encode_with t (b ∷ rest)) k 0) high_at ∙ later.high;
      low = ap (λ k. get_or (encode_with t (b ∷ rest)) k 0) low_at ∙ later.low;
    }

-- the digits of all bytes in turn
abbrev pub all_pairs : List ℕ
all_pairs = encode_lower (range_with_len 0 256)

pub high_digit : (table : List ℕ) (byte : ℕ) → table ≡ all_pairs → byte < 256 → get_or table (2 * byte) 0 ≡ get_or lower_digits (byte / 16) 0
high_digit table byte e below =
    let within : byte < length (range_with_len 0 256) = omega (arith, length-range_with_len 0 256) in
    ap (λ t. get_or t (2 * byte) 0) e ∙ (pair_at lower_digits (range_with_len 0 256) byte within).high
    ∙ ap (λ b. get_or lower_digits (b / 16) 0) (get_or-range_with_len 0 256 byte 0 below ∙ omega arith)

pub low_digit : (table : List ℕ) (byte : ℕ) → table ≡ all_pairs → byte < 256 → get_or table (2 * byte + 1) 0 ≡ get_or lower_digits (byte % 16) 0
low_digit table byte e below =
    let within : byte < length (range_with_len 0 256) = omega (arith, length-range_with_len 0 256) in
    ap (λ t. get_or t (2 * byte + 1) 0) e ∙ (pair_at lower_digits (range_with_len 0 256) byte within).low
    ∙ ap (λ b. get_or lower_digits (b % 16) 0) (get_or-range_with_len 0 256 byte 0 below ∙ omega arith)
