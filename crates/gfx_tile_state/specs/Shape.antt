-- Bit positions of bands ([MS-RDPEGFX], the progressive codec).
use Rattle.std.specs.Prelude.{ℕ, ◌<◌, ◌≤◌, Bool, List, nat_le, ◌&&◌, slice_index}
use Rattle.std.specs.List.{list_all}

-- a bit position of a pass
abbrev pub is_position : ℕ → Bool
is_position position = nat_le 6 position && nat_le position 30

abbrev pub are_positions : List ℕ → Bool
are_positions positions = list_all is_position positions

-- the number of each band is at most so much
abbrev pub AreAtMost : ℕ → List ℕ → Type 0
AreAtMost most numbers = (k : ℕ) → k < 10 → slice_index numbers k ≤ most

-- and not less
abbrev pub AreWithin : ℕ → ℕ → List ℕ → Type 0
AreWithin least most numbers = (k : ℕ) → k < 10 → (least ≤ slice_index numbers k) × (slice_index numbers k ≤ most)

-- no number of the one is above that of the other
abbrev pub AreBelow : List ℕ → List ℕ → Type 0
AreBelow low high = (k : ℕ) → k < 10 → slice_index low k ≤ slice_index high k

-- some number of the one is above that of the other
abbrev pub SomeAbove : List ℕ → List ℕ → Type 0
SomeAbove high low = (k : ℕ) × (k < 10) × (slice_index low k < slice_index high k)
