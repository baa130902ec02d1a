-- What one step of the decoder has read, and where the values stand meanwhile.
use Rattle.std.specs.Prelude.{ℕ, ◌<◌, ◌≤◌, ◌≡◌, length, min, ℤ, pos, negsuc, Bool, true, List, [], ◌∷◌, ◌++◌, map, take, replicate, if◌then◌else◌}
use Rattle.gfx_bits.specs.Bits.{Spelled}
use Rattle.gfx_rlgr.specs.declared.mode.Mode.{Mode}
use Rattle.gfx_rlgr.specs.declared.params.Params.{Params}
use Rattle.gfx_rlgr.specs.declared.params.TheConstants.{PARAMETER_MAX}
use Rattle.gfx_rlgr.specs.declared.placing.Terms.{Terms}
use Rattle.gfx_rlgr.specs.declared.placing.Terms.TheVariants.{Zeros, ValueBehind, TwoValues}
use Rattle.gfx_rlgr.specs.Code.{Token, kr, number_code, after_number, code, after, IsToken, adds_up, terms_of}
use Rattle.gfx_rlgr.specs.Rlgr.{in_range}

-- both parameters keep to their range
pub record AreWithin (params : Params) : Type 0 where
  pub kp : params.kp ≤ PARAMETER_MAX
  pub krp : params.krp ≤ PARAMETER_MAX

-- a number's code was read; a number that no value in range has may be known as another such number
pub record ReadsNumber (old new : List Bool) (before behind : Params) (number : ℕ) : Type 0 where
  pub exact : ℕ
  pub spelled : Spelled old (number_code (kr before) exact) new
  pub params : behind ≡ after_number before exact
  pub same : min exact 65535 ≡ min number 65535

-- a value, or one mark for all values that are out of range
abbrev pub kept : ℤ → ℤ
kept value = if in_range value then value else negsuc 32767

-- a token was read, and these are its terms
pub record ReadsToken (mode : Mode) (old new : List Bool) (before behind : Params) (shown : List ℤ) : Type 0 where
  pub token : Token
  pub fits : IsToken mode before token
  pub spelled : Spelled old (code before token) new
  pub params : behind ≡ after before token
  pub shows : shown ≡ map kept (terms_of before token)

-- the terms of a token that was read: its zeros, its zeros and the value behind them, or its two values
abbrev pub shown : Terms → List ℤ
shown (Zeros zeros) = replicate zeros (pos 0) ++ []
shown (ValueBehind zeros value) = replicate zeros (pos 0) ++ value ∷ []
shown (TwoValues one other) = one ∷ (other ∷ [])

-- the first n of these values, and zeros behind them if they are fewer
unfoldable pub filled : ℕ → List ℤ → List ℤ
filled n values = take n (values ++ replicate n (pos 0))

-- a token was written, and these are its terms
pub record WritesToken (mode : Mode) (old new : List Bool) (before behind : Params) (shown : List ℤ) : Type 0 where
  pub token : Token
  pub fits : IsToken mode before token
  pub adds : adds_up token ≡ true
  pub spelled : new ≡ old ++ code before token
  pub params : behind ≡ after before token
  pub shows : shown ≡ terms_of before token

-- a token was written for the values from one place to the next; the last may give zeros beyond them
pub record Covers (mode : Mode) (values : List ℤ) (at next : ℕ) (old new : List Bool) (before behind : Params) : Type 0 where
  pub shown : List ℤ
  pub written : WritesToken mode old new before behind shown
  pub within : AreWithin behind
  pub on : (at < next) × (next ≤ length values)
  pub more : ℕ
  pub gives : take at values ++ shown ≡ take next values ++ replicate more (pos 0)
  pub none : next < length values → more ≡ 0
