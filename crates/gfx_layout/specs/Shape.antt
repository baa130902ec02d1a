-- Parts of a fixed number of bytes: a number, or a record of numbers, little-endian, one after another.
use Rattle.std.specs.Prelude.{◌≡◌, ℕ, ◌+◌, ◌<◌, ◌^◌, List, [], ◌∷◌, ◌++◌, drop, slice_index, refl}
use Rattle.std.specs.Int.{w16, w32, w64, to_le_bytes}
use Rattle.gfx_base.specs.Field.{number_at}

-- how wide a number is, by its type in the code
pub data Size : Type 0 where
  u8 : Size
  u16 : Size
  u32 : Size
  u64 : Size

-- how many bytes that is
abbrev pub bytes_in : Size → ℕ
bytes_in u8 = 1
bytes_in u16 = 2
bytes_in u32 = 4
bytes_in u64 = 8

-- the bytes of a number; one that is a byte stands as it is
abbrev pub digits : Size → ℕ → List ℕ
digits u8 n = n ∷ []
digits u16 n = to_le_bytes w16 n
digits u32 n = to_le_bytes w32 n
digits u64 n = to_le_bytes w64 n

-- the number at the front of bytes; past the end they count as zero
abbrev pub number_in : Size → List ℕ → ℕ
number_in u8 bytes = slice_index bytes 0
number_in u16 bytes = number_at w16 bytes 0
number_in u32 bytes = number_at w32 bytes 0
number_in u64 bytes = number_at w64 bytes 0

-- the number is none that its bytes can't tell
abbrev pub NumberFits : Size → ℕ → Type 0
NumberFits u8 n = Unit {0}
NumberFits u16 n = n < 2 ^ 16
NumberFits u32 n = n < 2 ^ 32
NumberFits u64 n = n < 2 ^ 64

-- numbers of these sizes
abbrev pub Row : List Size → Type 0
Row [] = Unit {0}
Row (size ∷ sizes) = ℕ × Row sizes

abbrev pub row_bytes : List Size → ℕ
row_bytes [] = 0
row_bytes (size ∷ sizes) = bytes_in size + row_bytes sizes

abbrev pub row_digits : (sizes : List Size) → Row sizes → List ℕ
row_digits [] row = []
row_digits (size ∷ sizes) row = digits size row.0 ++ row_digits sizes row.1

abbrev pub row_in : (sizes : List Size) → List ℕ → Row sizes
row_in [] bytes = tt
row_in (size ∷ sizes) bytes = (number_in size bytes, row_in sizes (drop (bytes_in size) bytes))

abbrev pub RowFits : (sizes : List Size) → Row sizes → Type 0
RowFits [] row = Unit {0}
RowFits (size ∷ sizes) row = NumberFits size row.0 × RowFits sizes row.1

-- how a type of parts stands in bytes: as a row of numbers of these sizes
pub record Shape (T : Type 0) : Type 0 where
  pub sizes : List Size
  pub row : T → Row sizes
  pub of_row : Row sizes → T
  pub there : (part : T) → of_row (row part) ≡ part
  pub back : (numbers : Row sizes) → row (of_row numbers) ≡ numbers

-- how many bytes a part has
abbrev pub width : {T : Type 0} → Shape T → ℕ
width shape = row_bytes shape.sizes

-- its bytes
unfoldable pub text : {T : Type 0} → Shape T → T → List ℕ
text shape part = row_digits shape.sizes (shape.row part)

-- the part at the front of bytes; past the end they count as zero
unfoldable pub part_in : {T : Type 0} → Shape T → List ℕ → T
part_in shape bytes = shape.of_row (row_in shape.sizes bytes)

-- its numbers fit their bytes
abbrev pub PartFits : {T : Type 0} → Shape T → T → Type 0
PartFits shape part = RowFits shape.sizes (shape.row part)

-- a number alone
abbrev pub number_alone : Size → Shape ℕ
number_alone size = record {
  sizes = size ∷ [];
  row = λ n. (n, tt);
  of_row = λ row. row.0;
  there = λ n. refl;
  back = λ row. refl;
}
