-- A whole token of which a run ends in a value.
use Rattle.std.proofs.Common.{◌≡◌, ◌≢◌, ℕ, ◌+◌, ◌-◌, ◌^◌, ◌<◌, ◌≤◌, Bool, true, false, ℤ, pos, List, [], ◌∷◌, ◌++◌, drop, replicate, min, refl, sym, ap, subst, ◌∙◌, arith}
use Rattle.std.proofs.lemmas.List.{drop-drop}
use Rattle.std.proofs.Math.Pow.{pow_mono}
use Rattle.gfx_bits.specs.Bits.{Spelled, first, number, zeros_code}
use Rattle.std.specs.Int.RustNames.{unsigned_abs}
use Rattle.gfx_srl.specs.Code.{k, is_negative}
use Rattle.gfx_srl.specs.Steps.{Reader, ReadsMany}
use Rattle.gfx_srl.proofs.Reading.{standing}
use Rattle.gfx_srl.proofs.ReadingSteps.{begins-run, begins-value, comes-value}
use Rattle.gfx_srl.proofs.Stepping.{steps-zeros, steps-value}

-- so many zeros at most spell a magnitude of up to five bits
pub few-zeros : (n : ℕ) → n ≤ 5 → 2 ^ n - 2 ≤ 30
few-zeros n h = let most : 2 ^ n ≤ 2 ^ 5 = pow_mono h in omega arith

-- what is behind a head and the code of a value
all-passed : (at size : ℕ) (bits new : List Bool) → new ≡ drop (at + size) bits → drop size (drop at bits) ≡ new
all-passed at size bits new on = drop-drop size at bits ∙ sym on

pub last-read : (reader : Reader) (bits : List Bool) (kp zeros n width size : ℕ) (value : ℤ) (ends : Bool) → reader.zeros ≡ 0 → reader.ends ≡ false → (number 1 reader.bits ≡ 0 → ⊥)
    → width ≡ k reader.kp → value ≢ pos 0 → unsigned_abs value < 2 ^ n
    → is_negative value ≡ first (drop (1 + width) reader.bits)
    → Spelled (drop 1 (drop (1 + width) reader.bits)) (zeros_code (2 ^ n - 2) (unsigned_abs value - 1)) (drop size (drop (1 + width) reader.bits))
    → bits ≡ drop (1 + width + size) reader.bits
    → kp ≡ reader.kp - 6 → zeros ≡ reader.zeros → ends ≡ reader.ends
    → ReadsMany n (replicate (number (k reader.kp) (drop 1 reader.bits)) (pos 0) ++ value ∷ []) reader (standing bits kp zeros ends)
last-read reader bits kp zeros n width size value ends none begins last wide some small sign spelled on down same stays =
    let run : ℕ = number (k reader.kp) (drop 1 reader.bits) in
    let behind : List Bool = drop (k reader.kp) (drop 1 reader.bits) in
    let opened : Reader = standing behind reader.kp run true in
    let passed : Reader = standing behind reader.kp (run - run) true in
    let head : drop (1 + width) reader.bits ≡ behind = ap (λ m. drop m reader.bits) {y = 1 + k reader.kp} (omega arith) ∙ sym (drop-drop (k reader.kp) 1 reader.bits ∙ ap (λ m. drop m reader.bits) {y = 1 + k reader.kp} (omega arith)) in
    let code : Spelled (drop 1 (drop (1 + width) reader.bits)) (zeros_code (2 ^ n - 2) (unsigned_abs value - 1)) bits =
    subst (Spelled (drop 1 (drop (1 + width) reader.bits)) (zeros_code (2 ^ n - 2) (unsigned_abs value - 1))) (all-passed (1 + width) size reader.bits bits on) spelled in
    steps-value reader passed (standing bits kp zeros ends) (replicate run (pos 0)) value n
    (steps-zeros reader opened passed run n
    (begins-value reader behind reader.kp run true none begins last refl refl refl refl) (omega arith) refl)
    (comes-value passed bits kp zeros n value ends (omega arith) refl some small
    (sign ∙ ap first head) (subst (λ b. Spelled (drop 1 b) (zeros_code (2 ^ n - 2) (unsigned_abs value - 1)) bits) head code) down (same ∙ none) (stays ∙ begins))

-- a full run, all of whose zeros are passed
pub run-passed : (reader : Reader) (bits : List Bool) (kp zeros count n : ℕ) (ends : Bool) → reader.zeros ≡ 0 → reader.ends ≡ false → number 1 reader.bits ≡ 0
    → bits ≡ drop 1 reader.bits → kp ≡ min 80 (reader.kp + 4) → count ≡ 2 ^ k reader.kp → zeros ≡ 0 → ends ≡ false
    → ReadsMany n (replicate count (pos 0)) reader (standing bits kp zeros ends)
run-passed reader bits kp zeros count n ends none begins bit on up run left over =
    steps-zeros reader (standing bits kp count false) (standing bits kp zeros ends) count n
    (begins-run reader bits kp count false none begins bit on up run refl) (omega arith)
    (ap (λ z. standing bits kp z ends) {y = count - count} (omega (arith, left)) ∙ ap (λ b. standing bits kp (count - count) b) over)
