-- How far a reader and a writer have come.
use Rattle.std.specs.Prelude.{ℕ, ◌<◌, ◌^◌, ◌≡◌, ℤ, pos, Bool, true, false, List, [], ◌∷◌, ◌++◌, map, replicate}
use Rattle.gfx_bits.specs.Bits.{Spelled, digits}
use Rattle.gfx_srl.specs.declared.params.TheConstants.{PARAMETER_START}
use Rattle.gfx_srl.specs.Code.{Pair, Token, nothing, k, after}
use Rattle.gfx_srl.specs.Srl.{codes, terms, AreTokens, plain}

-- a reader: the bits that are left, the parameter, the zeros that are still to give, and whether a value ends them
pub record Reader : Type 0 where
  pub bits : List Bool
  pub kp : ℕ
  pub zeros : ℕ
  pub ends : Bool

-- the parameter after tokens
unfoldable pub after_all : ℕ → List Token → ℕ
after_all kp [] = kp
after_all kp (token ∷ tokens) = after_all (after kp token) tokens

-- the beginning of a run that a value ends was read, with its zeros, or nothing was
abbrev pub Opens : Bool → ℕ → ℕ → List Bool → List Bool → Type 0
Opens true kp run old new = (run < 2 ^ k kp) × Spelled old (true ∷ digits (k kp) run) new
Opens false kp run old new = (run ≡ 0) × (new ≡ old)

-- a reader of these bits has read these pairs: tokens and maybe the beginning of one more, and the zeros that are left to give
pub record HasRead (bits : List Bool) (pairs : List Pair) (reader : Reader) : Type 0 where
  pub tokens : List Token
  pub tokens_fit : AreTokens PARAMETER_START tokens
  pub behind : List Bool
  pub spelled : Spelled bits (codes PARAMETER_START tokens) behind
  pub kp_is : reader.kp ≡ after_all PARAMETER_START tokens
  pub run : ℕ
  pub opens : Opens reader.ends reader.kp run behind reader.bits
  pub gives : terms PARAMETER_START tokens ++ replicate run nothing ≡ map plain pairs ++ replicate reader.zeros nothing

-- whatever was read before, the next pair has this value
abbrev pub ReadsNext : ℕ → ℤ → Reader → Reader → Type 0
ReadsNext width value old new =
    (bits : List Bool) (pairs : List Pair) → HasRead bits pairs old → HasRead bits (pairs ++ (record { value = value; width = width }) ∷ []) new

-- a value at a width
abbrev pub at_width : ℕ → ℤ → Pair
at_width width value = record { value = value; width = width }

-- whatever was read before, the next pairs have these values, all at one width
abbrev pub ReadsMany : ℕ → List ℤ → Reader → Reader → Type 0
ReadsMany width values old new =
    (bits : List Bool) (pairs : List Pair) → HasRead bits pairs old → HasRead bits (pairs ++ map (at_width width) values) new

-- the next value is 0, whatever its width
abbrev pub ReadsZero : Reader → Reader → Type 0
ReadsZero old new = (width : ℕ) → ReadsNext width (pos 0) old new

-- the next is a value other than 0, and the reader stands before its sign
abbrev pub ComesToValue : Reader → Reader → Type 0
ComesToValue old new = (new.ends ≡ true) × (new.zeros ≡ 0) × ((bits : List Bool) (pairs : List Pair) → HasRead bits pairs old → HasRead bits pairs new)

-- a token comes next, of which nothing was read yet
abbrev pub BeginsToken : Reader → Type 0
BeginsToken reader = (reader.zeros ≡ 0) × (reader.ends ≡ false)

-- a writer: the bits written, the parameter, and zeros that no run covers yet
pub record Writer : Type 0 where
  pub bits : List Bool
  pub kp : ℕ
  pub zeros : ℕ

-- a writer has written these pairs: tokens, and the zeros behind them
pub record HasWritten (pairs : List Pair) (writer : Writer) : Type 0 where
  pub tokens : List Token
  pub tokens_fit : AreTokens PARAMETER_START tokens
  pub bits_are : writer.bits ≡ codes PARAMETER_START tokens
  pub kp_is : writer.kp ≡ after_all PARAMETER_START tokens
  pub gives : terms PARAMETER_START tokens ++ replicate writer.zeros nothing ≡ map plain pairs

-- whatever was written before, this pair is written behind it
abbrev pub Writes : ℕ → ℤ → Writer → Writer → Type 0
Writes width value old new = (pairs : List Pair) → HasWritten pairs old → HasWritten (pairs ++ (record { value = value; width = width }) ∷ []) new
