-- The tokens of RLGR1 and RLGR3 and their codes ([MS-RDPRFX] 3.1.8.1.7.3): an adaptive run-length and Golomb-Rice code of 4,096 signed numbers. The modes differ only where there are no runs.
use Prim.Native.Nat.{zero, suc}
use Rattle.std.specs.Prelude.{ℕ, ◌+◌, ◌-◌, ◌*◌, ◌/◌, ◌%◌, ◌^◌, ◌<◌, ◌==◌, ◌≡◌, ◌≢◌, min, nat_le, if◌then◌else◌, ℤ, pos, negsuc, Bool, true, false, List, [], ◌∷◌, ◌++◌, replicate}
use Rattle.std.specs.Int.RustNames.{unsigned_abs}
use Rattle.gfx_bits.specs.Bits.{digits}
use Rattle.gfx_rlgr.specs.declared.mode.Mode.{Mode}
use Rattle.gfx_rlgr.specs.declared.mode.Mode.TheVariants.{Rlgr1, Rlgr3}
use Rattle.gfx_rlgr.specs.declared.params.Params.{Params}
use Rattle.gfx_rlgr.specs.declared.params.TheConstants.{MAGNITUDE_MAX, PARAMETER_MAX, PARAMETER_START, FRACTION, RUN_UP, RUN_DOWN, VALUE_UP, VALUE_DOWN, CODE_DOWN}

-- what a code stands for: a full run of zeros; zeros that a value ends; a value; or two values, by the sum of their numbers and the first of these
pub data Token : Type 0 where
  Run : Token
  LastRun : ℕ → ℤ → Token
  Value : ℤ → Token
  Pair : ℕ → ℕ → Token

-- the parameters at the start
abbrev pub start : Params
start = record { kp = PARAMETER_START; krp = PARAMETER_START }

-- a run's length is 2 ^ k
abbrev pub k : Params → ℕ
k params = params.kp / FRACTION

-- a number's low bits are kr
abbrev pub kr : Params → ℕ
kr params = params.krp / FRACTION

-- a number in Golomb-Rice code: ones, a zero, and the low bits
unfoldable pub number_code : ℕ → ℕ → List Bool
number_code low n = replicate (n / 2 ^ low) true ++ (false ∷ digits low (n % 2 ^ low))

-- krp after a number's code with this many ones
abbrev pub krp_after : ℕ → ℕ → ℕ
krp_after zero krp = krp - CODE_DOWN
krp_after (suc zero) krp = krp
krp_after ones krp = min PARAMETER_MAX (krp + ones)

-- the parameters after a number's code
abbrev pub after_number : Params → ℕ → Params
after_number params n = record { kp = params.kp; krp = krp_after (n / 2 ^ kr params) params.krp }

-- a value as a number: the even ones are 0, 1, 2, .., the odd ones -1, -2, ..
abbrev pub folded : ℤ → ℕ
folded (pos n) = 2 * n
folded (negsuc n) = 2 * n + 1

-- the value that a number stands for
abbrev pub unfold_number : ℕ → ℤ
unfold_number n = if n % 2 == 0 then pos (n / 2) else negsuc (n / 2)

-- whether a value's sign bit is 1
abbrev pub is_negative : ℤ → Bool
is_negative (pos n) = false
is_negative (negsuc n) = true

-- kp after a value on its own
abbrev pub kp_after : ℕ → ℕ → ℕ
kp_after zero kp = min PARAMETER_MAX (kp + VALUE_UP)
kp_after number kp = kp - VALUE_DOWN

-- kp after two values, by their numbers
abbrev pub kp_after_pair : ℕ → ℕ → ℕ → ℕ
kp_after_pair zero zero kp = min PARAMETER_MAX (kp + 2 * VALUE_UP)
kp_after_pair (suc one) (suc other) kp = kp - 2 * VALUE_DOWN
kp_after_pair one other kp = kp

-- how many binary digits a number has, if these are at most so many; 0 has none
unfoldable pub bit_length_within : ℕ → ℕ → ℕ
bit_length_within zero n = 0
bit_length_within (suc most) zero = 0
bit_length_within (suc most) (suc n) = suc (bit_length_within most (suc n / 2))

-- how many binary digits a number has
abbrev pub bit_length : ℕ → ℕ
bit_length n = bit_length_within n n

-- the code of a token at these parameters
unfoldable pub code : Params → Token → List Bool
code params Run = false ∷ []
code params (LastRun count value) = true ∷ (digits (k params) count ++ (is_negative value ∷ number_code (kr params) (unsigned_abs value - 1)))
code params (Value value) = number_code (kr params) (folded value)
code params (Pair sum one) = number_code (kr params) sum ++ digits (bit_length sum) one

-- the parameters after a token
unfoldable pub after : Params → Token → Params
after params Run = record params { kp = min PARAMETER_MAX (params.kp + RUN_UP) }
after params (LastRun count value) = after_number (record params { kp = params.kp - RUN_DOWN }) (unsigned_abs value - 1)
after params (Value value) = after_number (record params { kp = kp_after (folded value) params.kp }) (folded value)
after params (Pair sum one) = after_number (record params { kp = kp_after_pair one (sum - one) params.kp }) sum

-- a token that these parameters have: runs where k is not 0, and where it is, values on their own in RLGR1 and pairs in RLGR3
unfoldable pub IsToken : Mode → Params → Token → Type 0
IsToken mode params Run = 0 < k params
IsToken mode params (LastRun count value) = (0 < k params) × (count < 2 ^ k params) × (value ≢ pos 0)
IsToken mode params (Value value) = (k params ≡ 0) × (mode ≡ Rlgr1)
IsToken mode params (Pair sum one) = (k params ≡ 0) × (mode ≡ Rlgr3) × (one < 2 ^ bit_length sum)

-- a pair's bits may tell a first number above the sum: such a pair is broken, and refused
abbrev pub adds_up : Token → Bool
adds_up (Pair sum one) = nat_le one sum
adds_up token = true

-- the first value of a pair; of a broken one it is out of range, which refuses all
abbrev pub first_of : ℕ → ℕ → ℤ
first_of sum one = if nat_le one sum then unfold_number one else negsuc MAGNITUDE_MAX

-- the terms that a token gives
unfoldable pub terms_of : Params → Token → List ℤ
terms_of params Run = replicate (2 ^ k params) (pos 0)
terms_of params (LastRun count value) = replicate count (pos 0) ++ value ∷ []
terms_of params (Value value) = value ∷ []
terms_of params (Pair sum one) = first_of sum one ∷ (unfold_number (sum - one) ∷ [])
