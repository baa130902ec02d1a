-- Noughts at the front of a plane, and lists of one number (this project's own words).
use Rattle.std.specs.Prelude.{◌≡◌, ◌≢◌, ℕ, ◌+◌, ◌%◌, ◌<◌, ◌≤◌, ℤ, pos, List, length}
use Rattle.gfx_dwt.specs.Ranges.{at}

-- each number of a list is this one
abbrev pub AllAre : ℤ → List ℤ → Type 0
AllAre one values = (k : ℕ) → k < length values → at values k ≡ one

-- some number of a list is another
abbrev pub SomeIsNot : ℤ → List ℤ → Type 0
SomeIsNot one values = (k : ℕ) × (k < length values) × (at values k ≢ one)

-- the blocks of 64 numbers before a place are nought, and the one behind it, if the plane doesn't end there, is not
pub record BlankBlocks (plane : List ℤ) (place : ℕ) : Type 0 where
  pub inside : place ≤ 4096
  pub whole : place % 64 ≡ 0
  pub before : (k : ℕ) → k < place → at plane k ≡ pos 0
  pub behind : place < 4096 → (k : ℕ) × (place ≤ k) × (k < place + 64) × (at plane k ≢ pos 0)
