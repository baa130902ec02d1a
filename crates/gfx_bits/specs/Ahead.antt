-- The bits that a reader keeps ahead of its bytes.
use Rattle.std.specs.Prelude.{ℕ, ◌-◌, ◌/◌, ◌%◌, ◌^◌, ◌≤◌, ◌≡◌, Bool, List, ◌++◌}
use Rattle.gfx_bits.specs.Bits.{digits, number, bits_of}

-- the top bits of a word of 64, and those of the bytes behind them
unfoldable pub bits_ahead : ℕ → ℕ → List ℕ → List Bool
bits_ahead ahead count rest = digits count (ahead / 2 ^ (64 - count)) ++ bits_of rest

-- a word of 64 bits has no ones below its top bits
abbrev pub IsAhead : ℕ → ℕ → Type 0
IsAhead ahead count = (count ≤ 64) × (ahead % 2 ^ (64 - count) ≡ 0)

-- the first n bits stand at the top of a word of 64
abbrev pub Shows : ℕ → ℕ → List Bool → Type 0
Shows n word bits = word / 2 ^ (64 - n) ≡ number n bits
