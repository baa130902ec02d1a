-- The arithmetic of one sample ([MS-RDPRFX] 3.1.8.1.4 and 3.1.8.2.4, [MS-RDPEGFX] for reduce-extrapolate).
use Rattle.std.specs.Prelude.{ℤ, pos, ◌+ℤ◌, ◌-ℤ◌, ◌*ℤ◌, int_div}
use Rattle.std.specs.Int.{int_shr}
use Rattle.gfx_dwt.specs.declared.layout.Transform.{Transform}
use Rattle.gfx_dwt.specs.declared.layout.Transform.TheVariants.{Plain, Reduced}

-- half of a number: floored in the plain transform, toward zero in reduce-extrapolate
unfoldable pub halved : Transform → ℤ → ℤ
halved Plain z = int_shr z 1
halved Reduced z = int_div z (pos 2)

-- the mean of two neighbours of a high half: plain rounds halves up, reduce-extrapolate toward zero
abbrev pub mean : Transform → ℤ → ℤ → ℤ
mean Plain before here = halved Plain (before +ℤ here +ℤ pos 1)
mean Reduced before here = halved Reduced (before +ℤ here)

-- an even sample, from its place of the low half and the high half on both sides of it
abbrev pub even_of : Transform → ℤ → ℤ → ℤ → ℤ
even_of t low before here = low -ℤ mean t before here

-- an odd sample, from its place of the high half and the even samples on both sides of it
abbrev pub odd_of : Transform → ℤ → ℤ → ℤ → ℤ
odd_of t high left right = pos 2 *ℤ high +ℤ halved t (left +ℤ right)

-- a place of the high half, from an odd sample and the even samples on both sides of it
abbrev pub high_of : Transform → ℤ → ℤ → ℤ → ℤ
high_of t odd left right = halved t (odd -ℤ halved t (left +ℤ right))

-- a place of the low half, from its even sample and the high half on both sides of it
abbrev pub low_of : Transform → ℤ → ℤ → ℤ → ℤ
low_of t even before here = even +ℤ mean t before here
