-- Numbers that rise: this project's own words.
use Rattle.std.specs.Prelude.{◌<◌, ℕ, List, [], ◌∷◌}

-- each is above the one before it, and the first above this one
abbrev pub AreRising : ℕ → List ℕ → Type 0
AreRising below [] = Unit {0}
AreRising below (step ∷ steps) = (below < step) × AreRising step steps
