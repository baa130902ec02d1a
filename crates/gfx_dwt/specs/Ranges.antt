-- How large samples and coefficients are (this project's own bounds).
use Rattle.std.specs.Prelude.{ℕ, ◌<◌, ℤ, pos, negsuc, neg_ℤ, ◌≤ℤ◌, List, length, slice_index_or}

-- a number's magnitude is at most a bound
pub record Within (bound : ℕ) (z : ℤ) : Type 0 where
  pub low : neg_ℤ (pos bound) ≤ℤ z
  pub high : z ≤ℤ pos bound

-- the number at a place of a list, and nought behind its end
abbrev pub at : List ℤ → ℕ → ℤ
at xs k = slice_index_or xs k (pos 0)

-- each number of a list
abbrev pub AllWithin : ℕ → List ℤ → Type 0
AllWithin bound xs = (k : ℕ) → k < length xs → Within bound (at xs k)

-- a coefficient: a number of the signed 16-bit range
pub record IsCoefficient (z : ℤ) : Type 0 where
  pub least : negsuc 32767 ≤ℤ z
  pub most : z ≤ℤ pos 32767

-- a sample that a transform takes: a number of the signed 14-bit range
pub record IsSample (z : ℤ) : Type 0 where
  pub least : negsuc 8191 ≤ℤ z
  pub most : z ≤ℤ pos 8191

abbrev pub AllCoefficients : List ℤ → Type 0
AllCoefficients xs = (k : ℕ) → k < length xs → IsCoefficient (at xs k)

abbrev pub AllSamples : List ℤ → Type 0
AllSamples xs = (k : ℕ) → k < length xs → IsSample (at xs k)
