-- What bytes say in either mode of RLGR, as a function: a token is taken from the front again and again, until the terms that are due are there.
use Prim.Native.Nat.{zero, suc}
use Rattle.std.specs.Prelude.{ℕ, ◌+◌, ◌-◌, ◌*◌, ◌^◌, ◌==◌, ℤ, pos, negsuc, Bool, List, [], ◌∷◌, length, drop, take, Result, if◌then◌else◌}
use Rattle.gfx_base.specs.declared.refusal.Refusal.{Refusal}
use Rattle.gfx_bits.specs.Bits.{first, number, ones, bits_of}
use Rattle.gfx_rlgr.specs.declared.mode.Mode.{Mode}
use Rattle.gfx_rlgr.specs.declared.mode.Mode.TheVariants.{Rlgr1, Rlgr3}
use Rattle.gfx_rlgr.specs.declared.params.Params.{Params}
use Rattle.gfx_rlgr.specs.declared.params.TheConstants.{TERMS}
use Rattle.gfx_rlgr.specs.Code.{Token, Run, LastRun, Value, Pair, start, k, kr, unfold_number, bit_length, code, after, terms_of}
use Rattle.gfx_rlgr.specs.Rlgr.{terms, answer}

-- the number whose code stands at the front
abbrev pub number_at : ℕ → List Bool → ℕ
number_at low bits = ones bits * 2 ^ low + number low (drop (suc (ones bits)) bits)

-- what is behind its code
abbrev pub behind_number : ℕ → List Bool → List Bool
behind_number low bits = drop low (drop (suc (ones bits)) bits)

-- the value of this sign whose magnitude is one more
abbrev pub signed : Bool → ℕ → ℤ
signed negative below = if negative then negsuc below else pos (suc below)

-- a run that a value ends, behind its first bit: how many zeros, a sign, and the magnitude less one
abbrev pub last_run_at : Params → List Bool → Token
last_run_at params bits =
    let rest = drop (k params) bits in
    LastRun (number (k params) bits) (signed (first rest) (number_at (kr params) (drop 1 rest)))

-- two values: the sum of their numbers, and the first in as many bits as the sum has
abbrev pub pair_at : Params → List Bool → Token
pair_at params bits =
    let sum = number_at (kr params) bits in
    Pair sum (number (bit_length sum) (behind_number (kr params) bits))

-- the token where there are no runs
abbrev pub single_at : Mode → Params → List Bool → Token
single_at Rlgr1 params bits = Value (unfold_number (number_at (kr params) bits))
single_at Rlgr3 params bits = pair_at params bits

-- the token at the front; zeros without end stand behind the bits
unfoldable pub token_at : Mode → Params → List Bool → Token
token_at mode params bits =
    if k params == 0 then single_at mode params bits
    else (if first bits then last_run_at params (drop 1 bits) else Run)

-- the tokens, at most so many, that give the terms that are due
unfoldable pub tokens_within : Mode → ℕ → ℕ → Params → List Bool → List Token
tokens_within mode zero due params bits = []
tokens_within mode (suc most) zero params bits = []
tokens_within mode (suc most) (suc due) params bits =
    let token = token_at mode params bits in
    token ∷ tokens_within mode most (suc due - length (terms_of params token)) (after params token) (drop (length (code params token)) bits)

-- what the bytes say; no more tokens than terms are due, since each gives one at least
unfoldable pub decoded : Mode → List ℕ → Result (List ℤ) Refusal
decoded mode bytes = answer (take TERMS (terms start (tokens_within mode TERMS TERMS start (bits_of bytes))))

-- what they say in RLGR1
abbrev pub rlgr : List ℕ → Result (List ℤ) Refusal
rlgr bytes = decoded Rlgr1 bytes
