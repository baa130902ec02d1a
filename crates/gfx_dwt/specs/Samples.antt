-- The samples of a component's plane ([MS-RDPRFX] 3.1.8.1.4, [MS-RDPEGFX] for reduce-extrapolate).
use Rattle.std.specs.Prelude.{ℕ, ◌+◌, ◌*◌, ℤ, List}
use Rattle.gfx_dwt.specs.declared.layout.Transform.{Transform}
use Rattle.gfx_dwt.specs.declared.layout.Scale.{Scale}
use Rattle.gfx_dwt.specs.declared.layout.Scale.TheVariants.{First, Second, Third}
use Rattle.gfx_dwt.specs.declared.layout.Band.TheVariants.{Hl1, Lh1, Hh1, Hl2, Lh2, Hh2, Hl3, Lh3, Hh3, Ll3}
use Rattle.gfx_dwt.specs.Place.{coefficient, low_size, high_size}
use Rattle.gfx_dwt.specs.Joining.{joined}
use Rattle.gfx_dwt.specs.Ranges.{at}

-- the number at a row and a column of a plane of this width
abbrev pub cell : ℕ → List ℤ → ℕ → ℕ → ℤ
cell width xs row column = at xs (row * width + column)

-- the numbers of a column of a plane of this width
abbrev pub column : ℕ → List ℤ → ℕ → ℕ → ℤ
column width xs place row = at xs (row * width + place)

-- A level from its four quarters, each by row and column: the rows first, then the columns of what they give.
unfoldable pub level_joined : Transform → Scale → (ll hl lh hh : ℕ → ℕ → ℤ) → ℕ → ℕ → ℤ
level_joined t l ll hl lh hh y x = joined t l (λ row. joined t l (ll row) (hl row) x) (λ row. joined t l (lh row) (hh row) x) y

-- the numbers of a quarter of a plane, which begins at a place and has this many columns
abbrev pub quarter : ℕ → ℕ → List ℤ → ℕ → ℕ → ℤ
quarter start columns xs row column = at xs (start + (row * columns + column))

-- a level from the part of the plane that it fills: its quarters stand in the order HL, LH, HH, LL
unfoldable pub part_joined : Transform → Scale → List ℤ → ℕ → ℕ → ℤ
part_joined t l part =
    let n = low_size t l in
    let m = high_size t l in
    level_joined t l (quarter (n * m + m * n + m * m) n part) (quarter 0 m part) (quarter (n * m) n part) (quarter (n * m + m * n) m part)

-- what the third level gives, from all the bands of that level
unfoldable pub third_level : Transform → List ℤ → ℕ → ℕ → ℤ
third_level t plane = level_joined t Third (coefficient t plane Ll3) (coefficient t plane Hl3) (coefficient t plane Lh3) (coefficient t plane Hh3)

-- what the second level gives, from what the third gave
unfoldable pub second_level : Transform → List ℤ → ℕ → ℕ → ℤ
second_level t plane = level_joined t Second (third_level t plane) (coefficient t plane Hl2) (coefficient t plane Lh2) (coefficient t plane Hh2)

-- the sample of row y and column x: what the first level gives, from what the second gave
unfoldable pub sample : Transform → List ℤ → ℕ → ℕ → ℤ
sample t plane = level_joined t First (second_level t plane) (coefficient t plane Hl1) (coefficient t plane Lh1) (coefficient t plane Hh1)
