-- The tokens of SRL and their codes ([MS-RDPEGFX], the progressive codec's upgrade tiles): a run-length code of values, each with a number of bits.
use Rattle.std.specs.Prelude.{ℕ, ◌+◌, ◌-◌, ◌/◌, ◌^◌, ◌<◌, ◌≢◌, min, ℤ, pos, negsuc, Bool, true, false, List, [], ◌∷◌, ◌++◌, replicate}
use Rattle.std.specs.Int.RustNames.{unsigned_abs}
use Rattle.gfx_bits.specs.Bits.{digits, zeros_code}
use Rattle.gfx_srl.specs.declared.params.TheConstants.{PARAMETER_MAX, FRACTION, RUN_UP, VALUE_DOWN}

-- a value, and how many bits its magnitude has at most
pub record Pair : Type 0 where
  pub value : ℤ
  pub width : ℕ

-- a zero, of whatever width
abbrev pub nothing : Pair
nothing = record { value = pos 0; width = 0 }

-- what a code stands for: a full run of zeros, or zeros that a value ends
pub data Token : Type 0 where
  Run : Token
  LastRun : ℕ → Pair → Token

-- a run's length is 2 ^ k
abbrev pub k : ℕ → ℕ
k kp = kp / FRACTION

-- whether a value's sign bit is 1
abbrev pub is_negative : ℤ → Bool
is_negative (pos n) = false
is_negative (negsuc n) = true

-- a value other than 0 whose magnitude fits its width
abbrev pub IsValue : Pair → Type 0
IsValue pair = (pair.value ≢ pos 0) × (unsigned_abs pair.value < 2 ^ pair.width)

-- the code of a token at this parameter: a magnitude is a zero for each number from 1 to below it, and a one, which the largest of its width goes without
unfoldable pub code : ℕ → Token → List Bool
code kp Run = false ∷ []
code kp (LastRun count pair) = true ∷ (digits (k kp) count ++ (is_negative pair.value ∷ zeros_code (2 ^ pair.width - 2) (unsigned_abs pair.value - 1)))

-- the parameter after a token
unfoldable pub after : ℕ → Token → ℕ
after kp Run = min PARAMETER_MAX (kp + RUN_UP)
after kp (LastRun count pair) = kp - VALUE_DOWN

-- a token that this parameter has
unfoldable pub IsToken : ℕ → Token → Type 0
IsToken kp Run = Unit {0}
IsToken kp (LastRun count pair) = (count < 2 ^ k kp) × IsValue pair

-- the terms that a token gives
unfoldable pub terms_of : ℕ → Token → List Pair
terms_of kp Run = replicate (2 ^ k kp) nothing
terms_of kp (LastRun count pair) = replicate count nothing ++ pair ∷ []
