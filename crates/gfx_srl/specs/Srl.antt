-- What bits say in SRL, and which bytes a server writes ([MS-RDPEGFX], the progressive codec's upgrade tiles). The parameter of a token is that after all tokens before it.
use Prim.Native.Nat.{zero, suc}
use Rattle.std.specs.Prelude.{ℕ, ◌-◌, ◌<◌, ◌≤◌, ◌≡◌, ℤ, pos, negsuc, Bool, List, [], ◌∷◌, ◌++◌, length, map, take, replicate}
use Rattle.gfx_bits.specs.Bits.{Spelled, IsPadded}
use Rattle.gfx_srl.specs.declared.params.TheConstants.{PARAMETER_START}
use Rattle.gfx_srl.specs.Code.{Pair, Token, nothing, code, after, IsToken, terms_of}

-- the tokens' codes in order
unfoldable pub codes : ℕ → List Token → List Bool
codes kp [] = []
codes kp (token ∷ tokens) = code kp token ++ codes (after kp token) tokens

-- the tokens' terms in order
unfoldable pub terms : ℕ → List Token → List Pair
terms kp [] = []
terms kp (token ∷ tokens) = terms_of kp token ++ terms (after kp token) tokens

-- each token is one that its parameter has
unfoldable pub AreTokens : ℕ → List Token → Type 0
AreTokens kp [] = Unit {0}
AreTokens kp (token ∷ tokens) = IsToken kp token × AreTokens (after kp token) tokens

-- the tokens are the fewest that give n terms or more
unfoldable pub AreFewest : ℕ → ℕ → List Token → Type 0
AreFewest n kp [] = n ≡ 0
AreFewest n kp (token ∷ tokens) = (0 < n) × AreFewest (n - length (terms_of kp token)) (after kp token) tokens

-- a pair as a term: the width of a zero plays no part
abbrev pub plain_of : ℤ → ℕ → Pair
plain_of (pos zero) width = nothing
plain_of (pos (suc n)) width = record { value = pos (suc n); width = width }
plain_of (negsuc n) width = record { value = negsuc n; width = width }

abbrev pub plain : Pair → Pair
plain pair = plain_of pair.value pair.width

-- the bits, zeros without end behind them, say these values at these widths: tokens stand at their front that give them
pub record Srl (bits : List Bool) (pairs : List Pair) : Type 0 where
  pub tokens : List Token
  pub tokens_fit : AreTokens PARAMETER_START tokens
  pub spelled : (rest : List Bool) × Spelled bits (codes PARAMETER_START tokens) rest
  pub gives : take (length pairs) (terms PARAMETER_START tokens) ≡ map plain pairs

-- the bytes that a server writes for pairs: the fewest tokens that give them, zeros behind the last, and zero bits to the end of a byte
pub record Written (pairs : List Pair) (bytes : List ℕ) : Type 0 where
  pub tokens : List Token
  pub tokens_fit : AreTokens PARAMETER_START tokens
  pub fewest : AreFewest (length pairs) PARAMETER_START tokens
  pub gives : (more : ℕ) × (terms PARAMETER_START tokens ≡ map plain pairs ++ replicate more nothing)
  pub padded : IsPadded (codes PARAMETER_START tokens) bytes

-- a pair's width
abbrev pub width_of : Pair → ℕ
width_of pair = pair.width

-- widths of up to six bits
abbrev pub AreNarrow : List Pair → Type 0
AreNarrow [] = Unit {0}
AreNarrow (pair ∷ pairs) = (pair.width ≤ 6) × AreNarrow pairs
