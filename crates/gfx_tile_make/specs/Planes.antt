-- Planes of a component, place by place (this project's own words).
use Rattle.std.specs.Prelude.{ℕ, suc, ℤ, ◌-ℤ◌, List, [], ◌∷◌}
use Rattle.gfx_dwt.specs.declared.layout.Transform.{Transform}
use Rattle.gfx_dwt.specs.declared.layout.Band.{Band}
use Rattle.gfx_tile_state.specs.Entries.{band_at}

-- the numbers from place k on, each as its band has it
unfoldable pub by_band_from : Transform → (Band → ℤ → ℤ) → ℕ → List ℤ → List ℤ
by_band_from t f k [] = []
by_band_from t f k (x ∷ xs) = f (band_at t k) x ∷ by_band_from t f (suc k) xs

-- each number of a plane, as its band has it
abbrev pub by_band : Transform → (Band → ℤ → ℤ) → List ℤ → List ℤ
by_band t f plane = by_band_from t f 0 plane

-- a plane less another
unfoldable pub less : List ℤ → List ℤ → List ℤ
less [] ys = []
less (x ∷ xs) [] = []
less (x ∷ xs) (y ∷ ys) = (x -ℤ y) ∷ less xs ys

-- each number less the one before it
unfoldable pub differences : ℤ → List ℤ → List ℤ
differences last [] = []
differences last (x ∷ xs) = (x -ℤ last) ∷ differences x xs
