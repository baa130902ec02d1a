-- The bytes that bits fill, as a function: eight bits after eight, the most significant first, and zeros behind the last up to the end of a byte.
use Prim.Native.Nat.{zero, suc}
use Rattle.std.specs.Prelude.{ℕ, Bool, List, [], ◌∷◌, length, drop}
use Rattle.gfx_bits.specs.Bits.{number}

-- the bytes of the bits, at most so many
unfoldable pub bytes_within : ℕ → List Bool → List ℕ
bytes_within zero bits = []
bytes_within (suc most) [] = []
bytes_within (suc most) (bit ∷ bits) = number 8 (bit ∷ bits) ∷ bytes_within most (drop 7 bits)

-- the bytes that the bits fill; no more bytes than bits
unfoldable pub padded : List Bool → List ℕ
padded bits = bytes_within (length bits) bits
