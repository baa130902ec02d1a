-- The bands of a component's 4,096 places ([MS-RDPRFX] 3.1.8.1.5, and [MS-RDPEGFX] for reduce-extrapolate).
use Rattle.std.specs.Prelude.{ℕ, ◌+◌, ◌-◌, ◌*◌, ◌<◌, ◌≤◌, ℤ, pos, List, [], ◌∷◌, slice_index_or, sum, map, take}
use Rattle.gfx_dwt.specs.declared.layout.Transform.{Transform}
use Rattle.gfx_dwt.specs.declared.layout.Transform.TheVariants.{Plain, Reduced}
use Rattle.gfx_dwt.specs.declared.layout.Scale.{Scale}
use Rattle.gfx_dwt.specs.declared.layout.Scale.TheVariants.{First, Second, Third}
use Rattle.gfx_dwt.specs.declared.layout.Band.{Band}
use Rattle.gfx_dwt.specs.declared.layout.Band.TheVariants.{Hl1, Lh1, Hh1, Hl2, Lh2, Hh2, Hl3, Lh3, Hh3, Ll3}

-- how many places the low half of a level's line has
abbrev pub low_size : Transform → Scale → ℕ
low_size Plain First = 32
low_size Plain Second = 16
low_size Plain Third = 8
low_size Reduced First = 33
low_size Reduced Second = 17
low_size Reduced Third = 9

-- how many places the high half of a level's line has
abbrev pub high_size : Transform → Scale → ℕ
high_size Plain First = 32
high_size Plain Second = 16
high_size Plain Third = 8
high_size Reduced First = 31
high_size Reduced Second = 16
high_size Reduced Third = 8

-- how many places a level's line has
abbrev pub line_size : Transform → Scale → ℕ
line_size t l = low_size t l + high_size t l

-- where the part of the plane begins that a level fills, up to the plane's end
abbrev pub part_start : Transform → Scale → ℕ
part_start t l = 4096 - line_size t l * line_size t l

-- where the low quarter of a level's part begins in it, behind HL, LH and HH
abbrev pub low_start : Transform → Scale → ℕ
low_start t l = low_size t l * high_size t l + high_size t l * low_size t l + high_size t l * high_size t l

-- how many columns a band has: the first letter says which half of a row it is
abbrev pub columns : Transform → Band → ℕ
columns t Hl1 = high_size t First
columns t Lh1 = low_size t First
columns t Hh1 = high_size t First
columns t Hl2 = high_size t Second
columns t Lh2 = low_size t Second
columns t Hh2 = high_size t Second
columns t Hl3 = high_size t Third
columns t Lh3 = low_size t Third
columns t Hh3 = high_size t Third
columns t Ll3 = low_size t Third

-- how many rows a band has: the second letter says which half of a column it is
abbrev pub rows : Transform → Band → ℕ
rows t Hl1 = low_size t First
rows t Lh1 = high_size t First
rows t Hh1 = high_size t First
rows t Hl2 = low_size t Second
rows t Lh2 = high_size t Second
rows t Hh2 = high_size t Second
rows t Hl3 = low_size t Third
rows t Lh3 = high_size t Third
rows t Hh3 = high_size t Third
rows t Ll3 = low_size t Third

-- how many places a band has
abbrev pub size : Transform → Band → ℕ
size t band = rows t band * columns t band

-- the ten bands in the order in which they stand
abbrev pub bands : List Band
bands = Hl1 ∷ Lh1 ∷ Hh1 ∷ Hl2 ∷ Lh2 ∷ Hh2 ∷ Hl3 ∷ Lh3 ∷ Hh3 ∷ Ll3 ∷ []

-- how many bands stand before a band
abbrev pub number : Band → ℕ
number Hl1 = 0
number Lh1 = 1
number Hh1 = 2
number Hl2 = 3
number Lh2 = 4
number Hh2 = 5
number Hl3 = 6
number Lh3 = 7
number Hh3 = 8
number Ll3 = 9

-- where a band begins: behind all bands before it
abbrev pub start : Transform → Band → ℕ
start t band = sum (map (size t) (take (number band) bands))

-- the place of a row and a column of a band
abbrev pub place : Transform → Band → ℕ → ℕ → ℕ
place t band row column = start t band + (row * columns t band + column)

-- place i lies in this band
abbrev pub LiesIn : Transform → Band → ℕ → Type 0
LiesIn t band i = (start t band ≤ i) × (i < start t band + size t band)

-- the coefficient at a row and a column of a band
abbrev pub coefficient : Transform → List ℤ → Band → ℕ → ℕ → ℤ
coefficient t plane band row column = slice_index_or plane (place t band row column) (pos 0)
