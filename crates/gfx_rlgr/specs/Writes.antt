-- Which bytes a server writes in either mode of RLGR, as a function: the token that the values in front ask for, again and again.
use Prim.Native.Nat.{zero, suc}
use Rattle.std.specs.Prelude.{ℕ, ◌+◌, ◌^◌, ◌==◌, ℤ, pos, negsuc, List, [], ◌∷◌, length, drop, get_or, nat_lt, if◌then◌else◌}
use Rattle.gfx_bits.specs.Padding.{padded}
use Rattle.gfx_rlgr.specs.declared.mode.Mode.{Mode}
use Rattle.gfx_rlgr.specs.declared.mode.Mode.TheVariants.{Rlgr1, Rlgr3}
use Rattle.gfx_rlgr.specs.declared.params.Params.{Params}
use Rattle.gfx_rlgr.specs.Code.{Token, Run, LastRun, Value, Pair, start, k, folded, after, terms_of}
use Rattle.gfx_rlgr.specs.Rlgr.{codes}

-- how many zeros stand in front
abbrev pub zeros : List ℤ → ℕ
zeros [] = 0
zeros (pos zero ∷ values) = suc (zeros values)
zeros (pos (suc n) ∷ values) = 0
zeros (negsuc n ∷ values) = 0

-- the token for this count of zeros before these values, where a run has so many
abbrev pub run_for : ℕ → ℕ → List ℤ → Token
run_for run count [] = Run
run_for run count (value ∷ values) = if nat_lt count run then LastRun count value else Run

-- two values by their numbers
abbrev pub pair_of : ℤ → ℤ → Token
pair_of one other = Pair (folded one + folded other) (folded one)

-- the token for the values in front where there are no runs; a pair takes 0 for a second value that isn't there
abbrev pub single_for : Mode → List ℤ → Token
single_for Rlgr1 values = Value (get_or values 0 (pos 0))
single_for Rlgr3 values = pair_of (get_or values 0 (pos 0)) (get_or values 1 (pos 0))

-- the token for the values in front: the first, or the first two, where there are no runs; else a full run, if that many zeros stand in front or nothing but zeros is left, or the zeros with the value that ends them
unfoldable pub token_for : Mode → Params → List ℤ → Token
token_for mode params values =
    if k params == 0 then single_for mode values
    else run_for (2 ^ k params) (zeros values) (drop (zeros values) values)

-- the tokens for values, at most so many
unfoldable pub tokens_for : Mode → ℕ → Params → List ℤ → List Token
tokens_for mode zero params values = []
tokens_for mode (suc most) params [] = []
tokens_for mode (suc most) params (value ∷ values) =
    let token = token_for mode params (value ∷ values) in
    token ∷ tokens_for mode most (after params token) (drop (length (terms_of params token)) (value ∷ values))

-- the bytes that a server writes for values; no more tokens than values, since each covers one at least
unfoldable pub encoded : Mode → List ℤ → List ℕ
encoded mode values = padded (codes start (tokens_for mode (length values) start values))

-- the bytes that it writes in RLGR1
abbrev pub rlgr_bytes : List ℤ → List ℕ
rlgr_bytes values = encoded Rlgr1 values
