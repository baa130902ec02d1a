-- The code of a number with few ones, as a number.
use Rattle.std.proofs.Common.{◌≡◌, ℕ, ◌+◌, ◌-◌, ◌*◌, ◌/◌, ◌%◌, ◌^◌, ◌<◌, ◌≤◌, Bool, true, false, List, [], ◌∷◌, ◌++◌, refl, sym, ap, ◌∙◌, arith, replicate}
use Rattle.std.proofs.Math.Nat.{add-mul}
use Rattle.std.proofs.Math.Pow.{pow_mono}
use Rattle.std.proofs.lemmas.Nat.{pow_pos, pow-add, one_shl, and_mask, shl_whole}
use Rattle.std.specs.Prelude.{bit_and}
use Rattle.gfx_bits.specs.Bits.{digits}
use Rattle.gfx_bits.proofs.Laws.{digits-join}
use Rattle.gfx_bits.proofs.Writing.{digits-ones}
use Rattle.gfx_rlgr.specs.Code.{number_code}

digits-none : digits 1 0 ≡ false ∷ []
unfolding digits
digits-none = refl

-- a zero bit, and a number's digits behind it
zero-digits : (low n : ℕ) → n < 2 ^ low → digits (1 + low) n ≡ false ∷ digits low n
zero-digits low n small =
    ap (digits (1 + low)) {x = n} {y = 0 * 2 ^ low + n} (omega arith) ∙ digits-join 1 low 0 n (omega arith) small ∙ ap (λ b. b ++ digits low n) digits-none

pub short-digits : (ones low n : ℕ) → n < 2 ^ low → digits (ones + 1 + low) ((2 ^ ones - 1) * 2 ^ (low + 1) + n) ≡ replicate ones true ++ (false ∷ digits low n)
short-digits ones low n small =
    let high : 2 ^ low ≤ 2 ^ (1 + low) = let h : low ≤ 1 + low = omega arith in pow_mono h in
    ap (λ k. digits k ((2 ^ ones - 1) * 2 ^ (low + 1) + n)) {y = ones + (1 + low)} (omega arith)
    ∙ ap (λ k. digits (ones + (1 + low)) ((2 ^ ones - 1) * 2 ^ k + n)) {x = low + 1} {y = 1 + low} (omega arith)
    ∙ digits-join ones (1 + low) (2 ^ ones - 1) n (omega (arith, pow_pos ones)) (omega (arith, small, high))
    ∙ ap (λ b. b ++ digits (1 + low) n) (digits-ones ones)
    ∙ ap (λ b. replicate ones true ++ b) (zero-digits low n small)

pub short-below : (ones low n : ℕ) → n < 2 ^ low → (2 ^ ones - 1) * 2 ^ (low + 1) + n < 2 ^ (ones + 1 + low)
short-below ones low n small =
    let high : 2 ^ low ≤ 2 ^ (low + 1) = let h : low ≤ low + 1 = omega arith in pow_mono h in
    let whole : 2 ^ ones - 1 + 1 ≡ 2 ^ ones = omega (arith, pow_pos ones) in
    let all : 2 ^ (ones + 1 + low) ≡ (2 ^ ones - 1) * 2 ^ (low + 1) + 1 * 2 ^ (low + 1) =
    ap (λ k. 2 ^ k) {y = ones + (low + 1)} (omega arith) ∙ pow-add 2 ones (low + 1) ∙ ap (λ m. m * 2 ^ (low + 1)) (sym whole) ∙ add-mul (2 ^ ones - 1) 1 (2 ^ (low + 1)) in
    omega (arith, all, high, small)

-- as the machine makes it
pub short-made : (ones low number : ℕ) → ones < 16 → low ≤ 10
    → (1 * 2 ^ ones % 2 ^ 32 - 1) * 2 ^ (low + 1) % 2 ^ 32 + bit_and number (1 * 2 ^ low % 2 ^ 32 - 1) ≡ (2 ^ ones - 1) * 2 ^ (low + 1) + number % 2 ^ low
short-made ones low number few small =
    ap (λ m. (m - 1) * 2 ^ (low + 1) % 2 ^ 32 + bit_and number (1 * 2 ^ low % 2 ^ 32 - 1)) (one_shl ones 32 (omega arith))
    ∙ ap (λ m. m + bit_and number (1 * 2 ^ low % 2 ^ 32 - 1)) (shl_whole (2 ^ ones - 1) ones (low + 1) 32 (omega (arith, pow_pos ones)) (omega arith))
    ∙ ap (λ m. (2 ^ ones - 1) * 2 ^ (low + 1) + m) (ap (λ m. bit_and number (m - 1)) (one_shl low 32 (omega arith)) ∙ and_mask number low)

pub short-written : (old new : List Bool) (ones low number short : ℕ) → ones ≡ number / 2 ^ low
    → digits (ones + 1 + low) short ≡ replicate ones true ++ (false ∷ digits low (number % 2 ^ low)) → new ≡ old ++ digits (ones + 1 + low) short → new ≡ old ++ number_code low number
unfolding number_code
short-written old new ones low number short are spells e =
    e ∙ ap (λ b. old ++ b) spells ∙ ap (λ n. old ++ (replicate n true ++ (false ∷ digits low (number % 2 ^ low)))) are
