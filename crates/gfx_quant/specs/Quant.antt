-- A number of four bits for each band, and its five bytes ([MS-RDPEGFX] RFX_COMPONENT_CODEC_QUANT).
use Rattle.std.specs.Prelude.{ℕ, ◌+◌, ◌*◌, ◌/◌, ◌%◌, ◌==◌, Bool, List, [], ◌∷◌, map, slice_index, nat_lt, nat_le, if◌then◌else◌}
use Rattle.std.specs.List.{list_all}
use Rattle.gfx_dwt.specs.declared.layout.Band.{Band}
use Rattle.gfx_dwt.specs.declared.layout.Band.TheVariants.{Hl1, Lh1, Hh1, Hl2, Lh2, Hh2, Hl3, Lh3, Hh3, Ll3}
use Rattle.gfx_dwt.specs.Place.{bands, number}
use Rattle.gfx_quant.specs.declared.quant.TheConstants.{LEAST_BASE}

-- each number fits four bits
abbrev pub are_nibbles : List ℕ → Bool
are_nibbles values = list_all (λ v. nat_lt v 16) values

-- each number may be the base of its band
abbrev pub is_base : List ℕ → Bool
is_base values = list_all (λ v. nat_le LEAST_BASE v) values

-- the number of a band
abbrev pub value_of : List ℕ → Band → ℕ
value_of values band = slice_index values (number band)

-- which nibble of the five bytes a band's number is
abbrev pub nibble_of : Band → ℕ
nibble_of Ll3 = 0
nibble_of Hl3 = 1
nibble_of Lh3 = 2
nibble_of Hh3 = 3
nibble_of Hl2 = 4
nibble_of Lh2 = 5
nibble_of Hh2 = 6
nibble_of Hl1 = 7
nibble_of Lh1 = 8
nibble_of Hh1 = 9

-- a nibble of some bytes: the low half of each byte comes before its high half
abbrev pub nibble : List ℕ → ℕ → ℕ
nibble bytes n = if n % 2 == 0 then slice_index bytes (n / 2) % 16 else slice_index bytes (n / 2) / 16

-- the numbers that five bytes spell
abbrev pub quant_values : List ℕ → List ℕ
quant_values bytes = map (λ band. nibble bytes (nibble_of band)) bands

-- a byte of two bands' numbers
abbrev pub pair : List ℕ → Band → Band → ℕ
pair values low high = value_of values low + 16 * value_of values high

-- the five bytes that spell ten numbers
abbrev pub quant_bytes : List ℕ → List ℕ
quant_bytes values = pair values Ll3 Hl3 ∷ pair values Lh3 Hh3 ∷ pair values Hl2 Lh2 ∷ pair values Hh2 Hl1 ∷ pair values Lh1 Hh1 ∷ []

-- nothing of any band
abbrev pub noughts : List ℕ
noughts = map (λ _. 0) bands
