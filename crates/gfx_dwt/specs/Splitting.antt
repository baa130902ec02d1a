-- How a line is split into its halves ([MS-RDPRFX] 3.1.8.2.4, [MS-RDPEGFX] for reduce-extrapolate).
use Rattle.std.specs.Prelude.{ℕ, ◌+◌, ◌-◌, ◌*◌, min, ℤ, pos, ◌-ℤ◌, ◌*ℤ◌, nat_lt, if◌then◌else◌}
use Rattle.gfx_dwt.specs.declared.layout.Transform.{Transform}
use Rattle.gfx_dwt.specs.declared.layout.Transform.TheVariants.{Reduced}
use Rattle.gfx_dwt.specs.declared.layout.Scale.{Scale}
use Rattle.gfx_dwt.specs.declared.layout.Scale.TheVariants.{First}
use Rattle.gfx_dwt.specs.Place.{low_size}
use Rattle.gfx_dwt.specs.Lifting.{high_of, low_of}
use Rattle.gfx_dwt.specs.Joining.{edged}

-- the sample behind two neighbours, in a straight line with them
abbrev pub beyond : ℤ → ℤ → ℤ
beyond before last = pos 2 *ℤ last -ℤ before

-- the even samples of a line; at the first level of reduce-extrapolate there is one more than the line has
unfoldable pub evens : Transform → Scale → (ℕ → ℤ) → ℕ → ℤ
evens Reduced First line n = if nat_lt n 32 then line (2 * n) else beyond (line 62) (line 63)
evens _ _ line n = line (2 * n)

-- a place of the high half between two even samples of its line
unfoldable pub differed : Transform → (ℕ → ℤ) → ℕ → ℤ
differed t line n = high_of t (line (2 * n + 1)) (line (2 * n)) (line (2 * n + 2))

-- the high half of a line; behind its last even sample that one stands again
unfoldable pub high_half : Transform → Scale → (ℕ → ℤ) → ℕ → ℤ
high_half t l line n =
    high_of t (line (2 * n + 1)) (evens t l line n) (evens t l line (min (n + 1) (low_size t l - 1)))

-- the low half of a line; in front of the high half stands its first place, behind it what the way back puts there
unfoldable pub low_half : Transform → Scale → (ℕ → ℤ) → ℕ → ℤ
low_half t l line n =
    low_of t (evens t l line n) (edged t l (high_half t l line) (n - 1)) (edged t l (high_half t l line) n)

-- how many times larger than a line its low half can be
abbrev pub grows : Transform → Scale → ℕ
grows Reduced First = 3
grows _ _ = 2
