-- How large values are; and values as small as those of a level of a tile, whose codes fit a tile's 16-bit lengths (this project's own rule).
use Rattle.std.specs.Prelude.{ℕ, ◌≤◌, max, ℤ, List, [], ◌∷◌, take, drop, All}
use Rattle.std.specs.Int.RustNames.{unsigned_abs}

-- the greatest magnitude among values
unfoldable pub greatest : List ℤ → ℕ
greatest [] = 0
greatest (value ∷ values) = max (unsigned_abs value) (greatest values)

-- a magnitude of at most so much
abbrev pub IsWithin : ℕ → ℤ → Type 0
IsWithin most value = unsigned_abs value ≤ most

-- the coefficients of the last band may be twice as large as all others
unfoldable pub AreSmall : List ℤ → Type 0
AreSmall values = All (IsWithin 1024) (take 4015 values) × All (IsWithin 2048) (drop 4015 values)
