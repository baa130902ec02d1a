-- Pixels that stand row by row in one list.
use Rattle.std.specs.Prelude.{◌≡◌, ℕ, ◌<◌, ◌/◌, ◌%◌, ◌&&◌, nat_le, nat_lt, List, length, if◌then◌else◌}
use Rattle.std.specs.List.{slice_index_or}
use Rattle.gfx_base.specs.declared.geometry.Rect.{Rect}
use Rattle.gfx_base.specs.declared.pixel.Pixel.{Pixel}
use Rattle.gfx_base.specs.Geometry.{holds}

-- each place of the rectangle has the pixel of its column and row, and each other place is as it was
abbrev pub WritesRows : ℕ → Rect → (ℕ → ℕ → Pixel) → List Pixel → List Pixel → Type 0
WritesRows width rect f old new =
    (k : ℕ) (d : Pixel) → k < length old
    → slice_index_or new k d ≡ (if holds rect (k % width) (k / width) then f (k % width) (k / width) else slice_index_or old k d)

-- each place from one up to another has the place's pixel, and each other place is as it was
abbrev pub WritesRun : ℕ → ℕ → (ℕ → Pixel) → List Pixel → List Pixel → Type 0
WritesRun from to f old new =
    (k : ℕ) (d : Pixel) → k < length old
    → slice_index_or new k d ≡ (if nat_le from k && nat_lt k to then f k else slice_index_or old k d)
