-- Bits as a list, the most significant of each byte first, and zeros without end behind them.
-- RLGR ([MS-RDPRFX] 3.1.8.1.7.3) and SRL ([MS-RDPEGFX], the progressive codec's upgrade tiles) are written in these words.
use Prim.Native.Nat.{zero, suc}
use Rattle.std.specs.Prelude.{ℕ, ◌+◌, ◌%◌, ◌^◌, ◌<◌, ◌≡◌, Bool, true, false, nat_le, List, [], ◌∷◌, ◌++◌, drop, replicate, nat_lt, if◌then◌else◌}

-- the next bit, which is zero past the end
abbrev pub first : List Bool → Bool
first [] = false
first (bit ∷ bits) = bit

-- the number that the next n bits are
unfoldable pub number : ℕ → List Bool → ℕ
number zero bits = 0
number (suc n) bits = (if first bits then 2 ^ n else 0) + number n (drop 1 bits)

-- a number below 2 ^ n as n bits
unfoldable pub digits : ℕ → ℕ → List Bool
digits zero value = []
digits (suc n) value = nat_le (2 ^ n) value ∷ digits n (value % 2 ^ n)

-- the bits of bytes
unfoldable pub bits_of : List ℕ → List Bool
bits_of [] = []
bits_of (byte ∷ bytes) = digits 8 byte ++ bits_of bytes

-- how many ones stand before the next zero
abbrev pub ones : List Bool → ℕ
ones [] = 0
ones (false ∷ bits) = 0
ones (true ∷ bits) = suc (ones bits)

-- the code stands at the front of old, zeros past its end, and new is what is behind it
abbrev pub Spelled : List Bool → List Bool → List Bool → Type 0
Spelled old [] new = new ≡ old
Spelled old (bit ∷ code) new = (first old ≡ bit) × Spelled (drop 1 old) code new

-- the bytes are the bits, with as few zeros behind them as fill the last byte
abbrev pub IsPadded : List Bool → List ℕ → Type 0
IsPadded bits bytes = (zeros : ℕ) × (zeros < 8) × (bits_of bytes ≡ bits ++ replicate zeros false)

-- new is old with some bits behind it
abbrev pub GainsSome : List Bool → List Bool → Type 0
GainsSome old new = (more : List Bool) × (new ≡ old ++ more)

-- a count in unary: a zero for each, and a one behind them, which the largest count goes without
unfoldable pub zeros_code : ℕ → ℕ → List Bool
zeros_code most count = replicate count false ++ (if nat_lt count most then true ∷ [] else [])
