-- What bytes say in either mode of RLGR, and which bytes a server writes ([MS-RDPRFX] 3.1.8.1.7.3). The parameters of a token are those after all tokens before it.
use Rattle.std.specs.Prelude.{ℕ, ◌-◌, ◌<◌, ◌≡◌, ℤ, pos, Bool, true, List, [], ◌∷◌, ◌++◌, length, take, replicate, nat_le, Result, Ok, Err, if◌then◌else◌}
use Rattle.std.specs.List.{list_all}
use Rattle.std.specs.Int.RustNames.{unsigned_abs}
use Rattle.gfx_base.specs.declared.refusal.Refusal.{Refusal}
use Rattle.gfx_base.specs.declared.refusal.Refusal.TheVariants.{CoefficientRange}
use Rattle.gfx_bits.specs.Bits.{Spelled, bits_of, IsPadded}
use Rattle.gfx_rlgr.specs.declared.mode.Mode.{Mode}
use Rattle.gfx_rlgr.specs.declared.mode.Mode.TheVariants.{Rlgr1}
use Rattle.gfx_rlgr.specs.declared.params.Params.{Params}
use Rattle.gfx_rlgr.specs.declared.params.TheConstants.{TERMS, MAGNITUDE_MAX}
use Rattle.gfx_rlgr.specs.Code.{Token, start, code, after, IsToken, adds_up, terms_of}

-- the tokens' codes in order
unfoldable pub codes : Params → List Token → List Bool
codes params [] = []
codes params (token ∷ tokens) = code params token ++ codes (after params token) tokens

-- the tokens' terms in order
unfoldable pub terms : Params → List Token → List ℤ
terms params [] = []
terms params (token ∷ tokens) = terms_of params token ++ terms (after params token) tokens

-- each token is one that its parameters have
unfoldable pub AreTokens : Mode → Params → List Token → Type 0
AreTokens mode params [] = Unit {0}
AreTokens mode params (token ∷ tokens) = IsToken mode params token × AreTokens mode (after params token) tokens

-- the tokens are the fewest that give n terms or more
unfoldable pub AreFewest : ℕ → Params → List Token → Type 0
AreFewest n params [] = n ≡ 0
AreFewest n params (token ∷ tokens) = (0 < n) × AreFewest (n - length (terms_of params token)) (after params token) tokens

-- a magnitude that a coefficient may have
abbrev pub in_range : ℤ → Bool
in_range value = nat_le (unsigned_abs value) MAGNITUDE_MAX

-- values out of range are refused
unfoldable pub answer : List ℤ → Result (List ℤ) Refusal
answer values = if list_all in_range values then Ok values else Err CoefficientRange

-- tokens that stand at the front of the bits, zeros without end behind them
pub record Reading (mode : Mode) (bits : List Bool) (tokens : List Token) : Type 0 where
  pub tokens_fit : AreTokens mode start tokens
  pub fewest : AreFewest TERMS start tokens
  pub spelled : (rest : List Bool) × Spelled bits (codes start tokens) rest

-- what the bytes say: the terms of their reading, cut at their number
abbrev pub Decodes : Mode → List ℕ → Result (List ℤ) Refusal → Type 0
Decodes mode bytes due = (tokens : List Token) × Reading mode (bits_of bytes) tokens × (due ≡ answer (take TERMS (terms start tokens)))

-- what they say in RLGR1
abbrev pub Rlgr : List ℕ → Result (List ℤ) Refusal → Type 0
Rlgr bytes due = Decodes Rlgr1 bytes due

-- the bytes that a server writes for values: the fewest tokens that give them, none of them broken, zeros behind the last, and zero bits to the end of a byte
pub record Encodes (mode : Mode) (values : List ℤ) (bytes : List ℕ) : Type 0 where
  pub tokens : List Token
  pub tokens_fit : AreTokens mode start tokens
  pub add_up : list_all adds_up tokens ≡ true
  pub fewest : AreFewest TERMS start tokens
  pub gives : (more : ℕ) × (terms start tokens ≡ values ++ replicate more (pos 0))
  pub padded : IsPadded (codes start tokens) bytes

-- the bytes that it writes in RLGR1
abbrev pub Written : List ℤ → List ℕ → Type 0
Written values bytes = Encodes Rlgr1 values bytes
