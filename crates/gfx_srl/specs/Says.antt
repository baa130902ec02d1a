-- What bits say in SRL at given widths, as a function: a token is taken from the front again and again, until each width has its value.
use Prim.Native.Nat.{zero, suc}
use Rattle.std.specs.Prelude.{ℕ, ◌-◌, ◌^◌, ℤ, pos, negsuc, Bool, List, [], ◌∷◌, length, drop, take, map, get_or, if◌then◌else◌}
use Rattle.gfx_bits.specs.Bits.{first, number}
use Rattle.gfx_srl.specs.declared.params.TheConstants.{PARAMETER_START}
use Rattle.gfx_srl.specs.Code.{Pair, Token, Run, LastRun, k, code, after, terms_of}
use Rattle.gfx_srl.specs.Srl.{terms}

-- how many zeros stand before the next one, and never more than so many
abbrev pub zeros_at : ℕ → List Bool → ℕ
zeros_at zero bits = 0
zeros_at (suc most) bits = if first bits then 0 else suc (zeros_at most (drop 1 bits))

-- the value of this sign whose magnitude is one more
abbrev pub signed : Bool → ℕ → ℤ
signed negative below = if negative then negsuc below else pos (suc below)

-- a value at this width: a sign, and the magnitude less one as zeros
abbrev pub pair_at : ℕ → List Bool → Pair
pair_at width bits = record { value = signed (first bits) (zeros_at (2 ^ width - 2) (drop 1 bits)); width = width }

-- a run that a value ends, behind its first bit: how many zeros, and a value at the width of its own place; behind the last place any width does
abbrev pub last_run_at : ℕ → List ℕ → List Bool → Token
last_run_at kp widths bits = LastRun (number (k kp) bits) (pair_at (get_or widths (number (k kp) bits) 1) (drop (k kp) bits))

-- the token at the front, before values of these widths; zeros without end stand behind the bits
unfoldable pub token_at : ℕ → List ℕ → List Bool → Token
token_at kp widths bits = if first bits then last_run_at kp widths (drop 1 bits) else Run

-- the tokens, at most so many, that give a term for each width
unfoldable pub tokens_within : ℕ → List ℕ → ℕ → List Bool → List Token
tokens_within zero widths kp bits = []
tokens_within (suc most) [] kp bits = []
tokens_within (suc most) (width ∷ widths) kp bits =
    let token = token_at kp (width ∷ widths) bits in
    token ∷ tokens_within most (drop (length (terms_of kp token)) (width ∷ widths)) (after kp token) (drop (length (code kp token)) bits)

-- a pair's value
abbrev pub value_of : Pair → ℤ
value_of pair = pair.value

-- the values that bits say at these widths, one for each; no more tokens than values, since each token gives one at least
unfoldable pub srl : List Bool → List ℕ → List ℤ
srl bits widths = map value_of (take (length widths) (terms PARAMETER_START (tokens_within (length widths) widths PARAMETER_START bits)))

-- each value with its width
abbrev pub pairs_of : List ℕ → List ℤ → List Pair
pairs_of [] values = []
pairs_of (width ∷ widths) [] = []
pairs_of (width ∷ widths) (value ∷ values) = (record { value = value; width = width }) ∷ pairs_of widths values
