-- Which bytes a server writes in SRL for pairs, as a function: the token that the pairs in front ask for, again and again.
use Prim.Native.Nat.{zero, suc}
use Rattle.std.specs.Prelude.{ℕ, ◌<◌, ◌^◌, ℤ, pos, negsuc, List, [], ◌∷◌, length, drop, nat_lt, if◌then◌else◌}
use Rattle.std.specs.Int.RustNames.{unsigned_abs}
use Rattle.gfx_bits.specs.Padding.{padded}
use Rattle.gfx_srl.specs.declared.params.TheConstants.{PARAMETER_START}
use Rattle.gfx_srl.specs.Code.{Pair, Token, Run, LastRun, k, after, terms_of}
use Rattle.gfx_srl.specs.Srl.{codes}

-- a pair whose magnitude has at most so many bits as its width
abbrev pub FitsWidth : Pair → Type 0
FitsWidth pair = unsigned_abs pair.value < 2 ^ pair.width

-- a value in front of this count of zeros: one zero more, or none
abbrev pub zeros_from : ℤ → ℕ → ℕ
zeros_from (pos zero) count = suc count
zeros_from (pos (suc n)) count = 0
zeros_from (negsuc n) count = 0

-- how many zeros stand in front, of whatever widths
abbrev pub zeros : List Pair → ℕ
zeros [] = 0
zeros (pair ∷ pairs) = zeros_from pair.value (zeros pairs)

-- the token for this count of zeros before these pairs, where a run has so many
abbrev pub run_for : ℕ → ℕ → List Pair → Token
run_for run count [] = Run
run_for run count (pair ∷ pairs) = if nat_lt count run then LastRun count pair else Run

-- the token for the pairs in front: a full run, if that many zeros stand in front or nothing but zeros is left, or the zeros with the value that ends them
unfoldable pub token_for : ℕ → List Pair → Token
token_for kp pairs = run_for (2 ^ k kp) (zeros pairs) (drop (zeros pairs) pairs)

-- the tokens for pairs, at most so many
unfoldable pub tokens_for : ℕ → ℕ → List Pair → List Token
tokens_for zero kp pairs = []
tokens_for (suc most) kp [] = []
tokens_for (suc most) kp (pair ∷ pairs) =
    let token = token_for kp (pair ∷ pairs) in
    token ∷ tokens_for most (after kp token) (drop (length (terms_of kp token)) (pair ∷ pairs))

-- the bytes that a server writes for pairs; no more tokens than pairs, since each covers one at least
unfoldable pub srl_bytes : List Pair → List ℕ
srl_bytes pairs = padded (codes PARAMETER_START (tokens_for (length pairs) PARAMETER_START pairs))
