-- How a line is joined of its halves ([MS-RDPRFX] 3.1.8.1.4, [MS-RDPEGFX] for reduce-extrapolate).
use Rattle.std.specs.Prelude.{ℕ, ◌+◌, ◌-◌, ◌/◌, ◌%◌, min, ℤ, pos, nat_lt, ◌==◌, if◌then◌else◌}
use Rattle.gfx_dwt.specs.declared.layout.Transform.{Transform}
use Rattle.gfx_dwt.specs.declared.layout.Transform.TheVariants.{Reduced}
use Rattle.gfx_dwt.specs.declared.layout.Scale.{Scale}
use Rattle.gfx_dwt.specs.declared.layout.Scale.TheVariants.{First}
use Rattle.gfx_dwt.specs.Place.{low_size, high_size}
use Rattle.gfx_dwt.specs.Lifting.{even_of, odd_of}

-- behind the end of a high half stands its last place, but nought at the first level of reduce-extrapolate
unfoldable pub behind : Transform → Scale → ℤ → ℤ
behind Reduced First last = pos 0
behind _ _ last = last

-- a high half with what stands behind its end
unfoldable pub edged : Transform → Scale → (ℕ → ℤ) → ℕ → ℤ
edged t l high n = if nat_lt n (high_size t l) then high n else behind t l (high (high_size t l - 1))

-- an even sample, from a low and a high half that have no end; in front of the high half stands its first place
unfoldable pub lowered : Transform → (ℕ → ℤ) → (ℕ → ℤ) → ℕ → ℤ
lowered t low high n = even_of t (low n) (high (n - 1)) (high n)

-- the even samples of a line
unfoldable pub even : Transform → Scale → (ℕ → ℤ) → (ℕ → ℤ) → ℕ → ℤ
even t l low high n = lowered t low (edged t l high) n

-- the odd samples of a line; behind its last even sample that one stands again
unfoldable pub odd : Transform → Scale → (ℕ → ℤ) → (ℕ → ℤ) → ℕ → ℤ
odd t l low high n =
    odd_of t (edged t l high n) (even t l low high n) (even t l low high (min (n + 1) (low_size t l - 1)))

-- a line of samples, from its low and its high half
unfoldable pub joined : Transform → Scale → (ℕ → ℤ) → (ℕ → ℤ) → ℕ → ℤ
joined t l low high k = if k % 2 == 0 then even t l low high (k / 2) else odd t l low high (k / 2)
