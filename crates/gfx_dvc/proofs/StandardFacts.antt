-- Headers of [MS-RDPEDYC] 2.2.3, computed from the definitions.
use Rattle.std.proofs.Common.{◌≡◌, [], ◌∷◌, Ok, Err, refl}
use Rattle.gfx_base.specs.Results.{and_then}
use Rattle.gfx_base.specs.declared.refusal.Refusal.TheVariants.{BulkCompressed, FragmentLength, FragmentKind}
use Rattle.gfx_layout.specs.Shape.{part_in}
use Rattle.gfx_layout.specs.Reading.{take_one, read}
use Rattle.gfx_dvc.specs.Format.{read_fragment}
use Rattle.gfx_dvc.specs.Joined.{first_of, data_of}

-- a DATA with an id of one, two and four bytes: the same id
pub data_headers : (read_fragment (0x30 ∷ 1 ∷ 0xAA ∷ []) ≡ Ok (data_of 1 (0xAA ∷ [])))
    × (read_fragment (0x31 ∷ 1 ∷ 0 ∷ 0xAA ∷ []) ≡ Ok (data_of 1 (0xAA ∷ [])))
    × (read_fragment (0x32 ∷ 1 ∷ 0 ∷ 0 ∷ 0 ∷ 0xAA ∷ []) ≡ Ok (data_of 1 (0xAA ∷ [])))
unfolding read_fragment read take_one part_in and_then
data_headers = (refl, refl, refl)

-- a DATA_FIRST with a total of one, two and four bytes
pub first_headers : (read_fragment (0x20 ∷ 1 ∷ 1 ∷ 0xAA ∷ []) ≡ Ok (first_of 1 1 (0xAA ∷ [])))
    × (read_fragment (0x24 ∷ 1 ∷ 0xA0 ∷ 0x0F ∷ []) ≡ Ok (first_of 1 4000 []))
    × (read_fragment (0x2A ∷ 2 ∷ 0 ∷ 0 ∷ 0 ∷ 0 ∷ 0 ∷ 1 ∷ 0 ∷ []) ≡ Ok (first_of 2 65536 []))
unfolding read_fragment read take_one part_in and_then
first_headers = (refl, refl, refl)

-- compressed, of another kind, without a width, cut short; a DATA has no total, so its width is free
pub refused_headers : (read_fragment (0x60 ∷ []) ≡ Err BulkCompressed)
    × (read_fragment (0x7F ∷ []) ≡ Err BulkCompressed)
    × (read_fragment (0x50 ∷ 1 ∷ []) ≡ Err FragmentKind)
    × (read_fragment (0x33 ∷ []) ≡ Err FragmentKind)
    × (read_fragment (0x2C ∷ []) ≡ Err FragmentKind)
    × (read_fragment (0x3C ∷ 1 ∷ []) ≡ Ok (data_of 1 []))
    × (read_fragment [] ≡ Err FragmentLength)
    × (read_fragment (0x24 ∷ 1 ∷ 0xA0 ∷ []) ≡ Err FragmentLength)
unfolding read_fragment read take_one part_in and_then
refused_headers = (refl, refl, refl, refl, refl, refl, refl, refl)
