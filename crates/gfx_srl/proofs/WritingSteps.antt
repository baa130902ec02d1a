-- What the writer's calls leave, as they compute it.
use Rattle.std.proofs.Common.{◌≡◌, ◌≢◌, ℕ, zero, suc, ◌+◌, ◌-◌, ◌*◌, ◌^◌, ◌<◌, ◌≤◌, Bool, true, false, cond, ℤ, pos, List, [], ◌∷◌, ◌++◌, refl, sym, ap, ◌∙◌, arith, min, append_assoc}
use Rattle.std.specs.Int.RustNames.{unsigned_abs}
use Rattle.gfx_bits.specs.Bits.{digits, zeros_code, IsPadded}
use Rattle.gfx_bits.proofs.Laws.{digits-join, doubled}
use Rattle.gfx_srl.specs.Code.{Pair, LastRun, k, is_negative, code}
use Rattle.gfx_srl.specs.Srl.{Written}
use Rattle.gfx_srl.specs.Steps.{Writer, HasWritten, Writes}
use Rattle.gfx_srl.proofs.Reading.{pair_of}
use Rattle.gfx_srl.proofs.Writing.{writing, rest_of, rest-some, zero-waits, run-written, value-written, closed}

digits-one : digits 1 1 ≡ true ∷ []
unfolding digits
digits-one = refl

digits-sign : (negative : Bool) → digits 1 (cond negative 1 0) ≡ negative ∷ []
unfolding digits
digits-sign true = refl
digits-sign false = refl

-- a sign's bit
pub bit-of : (negative : Bool) (bit : ℕ) → bit ≡ cond negative 1 0 → bit < 2
bit-of true bit e = omega arith
bit-of false bit e = omega arith

-- a one, zeros and a sign as one number
pub head-code : (width zeros sign : ℕ) (negative : Bool) → zeros < 2 ^ width → sign ≡ cond negative 1 0 → sign < 2
    → digits (width + 2) (2 ^ (width + 1) + 2 * zeros + sign) ≡ true ∷ (digits width zeros ++ negative ∷ [])
head-code width zeros sign negative room is bit =
    let two : 2 ^ (width + 1) ≡ 2 * 2 ^ width = ap (λ n. 2 ^ n) {y = suc width} (omega arith) ∙ doubled width ∙ omega arith in
    ap (λ n. digits n (2 ^ (width + 1) + 2 * zeros + sign)) {y = 1 + (width + 1)} (omega arith)
    ∙ ap (digits (1 + (width + 1))) {y = 1 * 2 ^ (width + 1) + (zeros * 2 ^ 1 + sign)} (omega arith)
    ∙ digits-join 1 (width + 1) 1 (zeros * 2 ^ 1 + sign) (omega arith) (omega arith)
    ∙ ap (λ b. b ++ digits (width + 1) (zeros * 2 ^ 1 + sign)) digits-one
    ∙ ap (λ b. true ∷ b)
    (digits-join width 1 zeros sign room (omega arith) ∙ ap (λ s. digits width zeros ++ digits 1 s) is ∙ ap (λ b. digits width zeros ++ b) (digits-sign negative))

pub head-below : (width zeros sign : ℕ) → zeros < 2 ^ width → sign < 2 → 2 ^ (width + 1) + 2 * zeros + sign < 2 ^ (width + 2)
head-below width zeros sign room bit =
    let two : 2 ^ (width + 1) ≡ 2 * 2 ^ width = ap (λ n. 2 ^ n) {y = suc width} (omega arith) ∙ doubled width ∙ omega arith in
    let four : 2 ^ (width + 2) ≡ 2 * 2 ^ (width + 1) = ap (λ n. 2 ^ n) {y = suc (width + 1)} (omega arith) ∙ doubled (width + 1) ∙ omega arith in
    omega arith

-- ---- the code of a value

-- a head as one number, and a magnitude behind it
pub last-run : (old new : List Bool) (width zeros sign top n below : ℕ) (negative : Bool) → zeros < 2 ^ width → sign ≡ cond negative 1 0 → top ≡ 2 ^ (width + 1)
    → new ≡ old ++ (digits (width + 2) (top + 2 * zeros + sign) ++ zeros_code n below)
    → new ≡ old ++ (true ∷ (digits width zeros ++ (negative ∷ zeros_code n below)))
last-run old new width zeros sign top n below negative room is power e =
    e
    ∙ ap (λ m. old ++ (digits (width + 2) (m + 2 * zeros + sign) ++ zeros_code n below)) power
    ∙ ap (λ b. old ++ (b ++ zeros_code n below)) (head-code width zeros sign negative room is (bit-of negative sign is))
    ∙ ap (λ b. old ++ (true ∷ b)) (append_assoc (digits width zeros) (negative ∷ []) (zeros_code n below))

-- at the width of the parameter
pub value-code : (old new : List Bool) (kp zeros n width : ℕ) (value : ℤ) → width ≡ k kp
    → new ≡ old ++ (true ∷ (digits width zeros ++ (is_negative value ∷ zeros_code (2 ^ n - 2) (unsigned_abs value - 1))))
    → new ≡ old ++ code kp (LastRun zeros (pair_of value n))
unfolding code
value-code old new kp zeros n width value is e =
    e ∙ ap (λ w. old ++ (true ∷ (digits w zeros ++ (is_negative value ∷ zeros_code (2 ^ n - 2) (unsigned_abs value - 1))))) is

-- ---- the calls

pub waits : (writer : Writer) (more : ℕ) → more ≡ writer.zeros + 1 → (n : ℕ) → Writes n (pos 0) writer (writing writer.bits writer.kp more)
waits writer more e n pairs h = zero-waits writer.bits writer.kp writer.zeros more n pairs (omega arith) h

pub fills : (writer : Writer) (bits : List Bool) (kp : ℕ) → writer.zeros < 2 ^ k writer.kp → 2 ^ k writer.kp ≤ writer.zeros + 1 → bits ≡ writer.bits ++ digits 1 0 → kp ≡ min 80 (writer.kp + 4)
    → (n : ℕ) → Writes n (pos 0) writer (writing bits kp 0)
unfolding digits
fills writer bits kp below full e up n pairs h =
    rw up (run-written writer.bits bits writer.kp writer.zeros n pairs (omega arith) e h)

pub ends : (writer : Writer) (bits : List Bool) (kp n : ℕ) (value : ℤ) → writer.zeros < 2 ^ k writer.kp → value ≢ pos 0 → unsigned_abs value < 2 ^ n
    → bits ≡ writer.bits ++ code writer.kp (LastRun writer.zeros (pair_of value n)) → kp ≡ writer.kp - 6
    → Writes n value writer (writing bits kp 0)
ends writer bits kp n value room some small e down pairs h = rw down (value-written writer.bits bits writer.kp writer.zeros n value pairs room some small e h)

pub closes : (writer : Writer) (bits : List Bool) (bytes : List ℕ) → writer.zeros < 2 ^ k writer.kp → bits ≡ writer.bits ++ rest_of writer.zeros → IsPadded bits bytes
    → (pairs : List Pair) → HasWritten pairs writer → Written pairs bytes
closes writer bits bytes room e padded pairs h = closed writer.bits bits writer.kp writer.zeros pairs bytes room e padded h

pub run-rest : (old new : List Bool) (zeros : ℕ) → 0 < zeros → new ≡ old ++ digits 1 0 → new ≡ old ++ rest_of zeros
unfolding digits
run-rest old new zero some e = absurd (omega arith)
run-rest old new (suc zeros) some e = e ∙ ap (λ b. old ++ b) (sym (rest-some zeros))
