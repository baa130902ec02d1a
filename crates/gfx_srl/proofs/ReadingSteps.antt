-- What the reader's calls leave, as they compute it.
use Rattle.std.proofs.Common.{◌≡◌, ◌≢◌, ℕ, suc, ◌+◌, ◌-◌, ◌^◌, ◌<◌, ◌≤◌, ◌==◌, Bool, true, false, cond, ℤ, pos, negsuc, List, [], drop, refl, sym, ◌∙◌, arith, min, subst}
use Rattle.std.specs.Int.RustNames.{unsigned_abs}
use Rattle.std.proofs.lemmas.List.{append-nil}
use Rattle.std.proofs.Math.Pow.{pow_mono}
use Rattle.gfx_bits.specs.Bits.{Spelled, first, number, zeros_code}
use Rattle.gfx_bits.proofs.Laws.{number_1}
use Rattle.gfx_srl.specs.Code.{Pair, k, is_negative}
use Rattle.gfx_srl.specs.Steps.{Reader, HasRead, ReadsMany, ReadsNext}
use Rattle.gfx_srl.proofs.Reading.{standing, run-read, head-read, value-read}

at-zeros : (all : List Bool) (pairs : List Pair) (reader : Reader) (zeros : ℕ) (ends : Bool) → reader.zeros ≡ zeros → reader.ends ≡ ends
    → HasRead all pairs reader → HasRead all pairs (standing reader.bits reader.kp zeros ends)
at-zeros all pairs reader zeros ends e f h =
    subst (λ b. HasRead all pairs (standing reader.bits reader.kp zeros b)) f (subst (λ n. HasRead all pairs (standing reader.bits reader.kp n reader.ends)) e h)

no-bit : (bits : List Bool) → number 1 bits ≡ 0 → first bits ≡ false
no-bit bits e = go (first bits) (sym (number_1 bits) ∙ e)
  where
    go : (b : Bool) → ◌≡◌ {A = ℕ} (cond b 1 0) 0 → b ≡ false
    go true e = absurd (omega arith)
    go false e = refl

one-bit : (bits : List Bool) → (number 1 bits ≡ 0 → ⊥) → first bits ≡ true
one-bit bits h = go (first bits) (λ e. h (number_1 bits ∙ e))
  where
    go : (b : Bool) → (◌≡◌ {A = ℕ} (cond b 1 0) 0 → ⊥) → b ≡ true
    go true h = refl
    go false h = absurd (h refl)

-- a token begins: a full run, all of whose zeros are still to give
pub begins-run : (reader : Reader) (bits : List Bool) (kp zeros : ℕ) (ends : Bool) → reader.zeros ≡ 0 → reader.ends ≡ false → number 1 reader.bits ≡ 0
    → bits ≡ drop 1 reader.bits → kp ≡ min 80 (reader.kp + 4) → zeros ≡ 2 ^ k reader.kp → ends ≡ false
    → ReadsMany 0 [] reader (standing bits kp zeros ends)
begins-run reader bits kp zeros ends none begins bit on up run over all pairs h =
    rw (append-nil pairs, on, up, run, over) (run-read all reader.bits reader.kp pairs (no-bit reader.bits bit) (at-zeros all pairs reader 0 false none begins h))

-- or the head of a run that a value ends
pub begins-value : (reader : Reader) (bits : List Bool) (kp zeros : ℕ) (ends : Bool) → reader.zeros ≡ 0 → reader.ends ≡ false → (number 1 reader.bits ≡ 0 → ⊥)
    → bits ≡ drop (k reader.kp) (drop 1 reader.bits) → kp ≡ reader.kp → zeros ≡ number (k reader.kp) (drop 1 reader.bits) → ends ≡ true
    → ReadsMany 0 [] reader (standing bits kp zeros ends)
begins-value reader bits kp zeros ends none begins bit on same run stops all pairs h =
    rw (append-nil pairs, on, same, run, stops) (head-read all reader.bits reader.kp pairs (one-bit reader.bits bit) (at-zeros all pairs reader 0 false none begins h))

-- ---- a value

abbrev pub signed_value : Bool → ℕ → ℤ
signed_value negative below = cond negative (negsuc below) (pos (suc below))

pub sign-of : (negative : Bool) (below : ℕ) → is_negative (signed_value negative below) ≡ negative
sign-of true below = refl
sign-of false below = refl

pub below-of : (negative : Bool) (below : ℕ) → unsigned_abs (signed_value negative below) - 1 ≡ below
below-of true below = omega arith
below-of false below = omega arith

pub not-zero : (negative : Bool) (below : ℕ) → signed_value negative below ≢ pos 0
not-zero true below e = cc
not-zero false below e = cc

pub magnitude-of : (negative : Bool) (below : ℕ) → unsigned_abs (signed_value negative below) ≡ suc below
magnitude-of true below = omega arith
magnitude-of false below = omega arith

-- the test of the sign's bit
pub sign-bit : (bits : List Bool) (n : ℕ) → n ≡ number 1 bits → (n == 1) ≡ first bits
sign-bit bits n e = rw (e, number_1 bits) (go (first bits))
  where
    go : (b : Bool) → (cond b 1 0 == 1) ≡ b
    go true = refl
    go false = refl

-- the largest number of zeros in a magnitude's code
pub most-zeros : (n : ℕ) → 1 ≤ n → n ≤ 24 → (2 ≤ 2 ^ n) × (2 ^ n ≤ 2 ^ 24)
most-zeros n some few = (let one : 2 ^ 1 ≤ 2 ^ n = pow_mono some in omega arith, pow_mono few)

pub small-value : (negative : Bool) (below n : ℕ) → 1 ≤ n → n ≤ 24 → below ≤ 2 ^ n - 2 → unsigned_abs (signed_value negative below) < 2 ^ n
small-value negative below n some few most = omega (arith, magnitude-of negative below, most-zeros n some few)

pub comes-value : (reader : Reader) (bits : List Bool) (kp zeros n : ℕ) (value : ℤ) (ends : Bool) → reader.zeros ≡ 0 → reader.ends ≡ true → value ≢ pos 0 → unsigned_abs value < 2 ^ n
    → is_negative value ≡ first reader.bits → Spelled (drop 1 reader.bits) (zeros_code (2 ^ n - 2) (unsigned_abs value - 1)) bits
    → kp ≡ reader.kp - 6 → zeros ≡ 0 → ends ≡ false
    → ReadsNext n value reader (standing bits kp zeros ends)
comes-value reader bits kp zeros n value ends none stops some small sign spelled down same over all pairs h =
    rw (down, same, over) (value-read all reader.bits bits reader.kp n value pairs some small sign spelled (at-zeros all pairs reader 0 true none stops h))

pub reads-value : (reader : Reader) (bits : List Bool) (kp zeros n bit below : ℕ) (ends : Bool) → reader.zeros ≡ 0 → reader.ends ≡ true → 1 ≤ n → n ≤ 24
    → bit ≡ number 1 reader.bits → Spelled (drop 1 reader.bits) (zeros_code (2 ^ n - 2) below) bits → below ≤ 2 ^ n - 2
    → kp ≡ reader.kp - 6 → zeros ≡ reader.zeros → ends ≡ false
    → ReadsNext n (signed_value (bit == 1) below) reader (standing bits kp zeros ends)
reads-value reader bits kp zeros n bit below ends none stops some few is spelled most down same over all pairs h =
    rw (down, same, none, over)
    (value-read all reader.bits bits reader.kp n (signed_value (bit == 1) below) pairs (not-zero (bit == 1) below) (small-value (bit == 1) below n some few most)
    (sign-of (bit == 1) below ∙ sign-bit reader.bits bit is)
    (subst (λ m. Spelled (drop 1 reader.bits) (zeros_code (2 ^ n - 2) m) bits) (sym (below-of (bit == 1) below)) spelled)
    (at-zeros all pairs reader 0 true none stops h))
