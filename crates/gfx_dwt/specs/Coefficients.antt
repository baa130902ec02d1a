-- The coefficients of a component's samples ([MS-RDPRFX] 3.1.8.2.4, [MS-RDPEGFX] for reduce-extrapolate).
use Rattle.std.specs.Prelude.{◌≡◌, ℕ, ◌+◌, ◌*◌, ◌<◌, ℤ, List}
use Rattle.gfx_dwt.specs.declared.layout.Transform.{Transform}
use Rattle.gfx_dwt.specs.declared.layout.Scale.{Scale}
use Rattle.gfx_dwt.specs.declared.layout.Scale.TheVariants.{First, Second, Third}
use Rattle.gfx_dwt.specs.declared.layout.Band.{Band}
use Rattle.gfx_dwt.specs.declared.layout.Band.TheVariants.{Hl1, Lh1, Hh1, Hl2, Lh2, Hh2, Hl3, Lh3, Hh3, Ll3}
use Rattle.gfx_dwt.specs.Splitting.{high_half, low_half}
use Rattle.gfx_dwt.specs.Place.{low_size, high_size, low_start}
use Rattle.gfx_dwt.specs.Samples.{cell, quarter}

-- which half of a line
pub data Half : Type 0 where
  Low : Half
  High : Half

-- a half of a line
unfoldable pub half : Half → Transform → Scale → (ℕ → ℤ) → ℕ → ℤ
half Low = low_half
half High = high_half

-- A quarter of a level, by which half it is across and down: the columns first, then the rows of what they give.
unfoldable pub split : Transform → Scale → Half → Half → (ℕ → ℕ → ℤ) → ℕ → ℕ → ℤ
split t l across down source row column = half across t l (λ x. half down t l (λ y. source y x) row) column

-- the four quarters of a level stand behind a place of a plane, in the order HL, LH, HH, LL
pub record IsSplitAt (t : Transform) (l : Scale) (place : ℕ) (source : ℕ → ℕ → ℤ) (now : List ℤ) : Type 0 where
  pub low_low : (r c : ℕ) → r < low_size t l → c < low_size t l → quarter (place + low_start t l) (low_size t l) now r c ≡ split t l Low Low source r c
  pub high_low : (r c : ℕ) → r < low_size t l → c < high_size t l → quarter place (high_size t l) now r c ≡ split t l High Low source r c
  pub low_high : (r c : ℕ) → r < high_size t l → c < low_size t l → quarter (place + low_size t l * high_size t l) (low_size t l) now r c ≡ split t l Low High source r c
  pub high_high : (r c : ℕ) → r < high_size t l → c < high_size t l → quarter (place + (low_size t l * high_size t l + high_size t l * low_size t l)) (high_size t l) now r c ≡ split t l High High source r c

-- what the second level takes, and what the third takes
unfoldable pub second_source : Transform → List ℤ → ℕ → ℕ → ℤ
second_source t samples = split t First Low Low (cell 64 samples)

unfoldable pub third_source : Transform → List ℤ → ℕ → ℕ → ℤ
third_source t samples = split t Second Low Low (second_source t samples)

-- the coefficient at a row and a column of a band, from samples row by row
unfoldable pub transformed : Transform → List ℤ → Band → ℕ → ℕ → ℤ
transformed t samples Hl1 = split t First High Low (cell 64 samples)
transformed t samples Lh1 = split t First Low High (cell 64 samples)
transformed t samples Hh1 = split t First High High (cell 64 samples)
transformed t samples Hl2 = split t Second High Low (second_source t samples)
transformed t samples Lh2 = split t Second Low High (second_source t samples)
transformed t samples Hh2 = split t Second High High (second_source t samples)
transformed t samples Hl3 = split t Third High Low (third_source t samples)
transformed t samples Lh3 = split t Third Low High (third_source t samples)
transformed t samples Hh3 = split t Third High High (third_source t samples)
transformed t samples Ll3 = split t Third Low Low (third_source t samples)
