-- The numbers of the client's messages ([MS-RDPEGFX] 2.2.1.5, cmdId).
use Rattle.std.specs.Prelude.{ℕ, ◌==◌, List, [], ◌∷◌, Option}
use Rattle.std.specs.List.{find}
use Rattle.gfx_caps.specs.declared.client_id.ClientId.{ClientId}
use Rattle.gfx_caps.specs.declared.client_id.ClientId.TheVariants.{FrameAcknowledge, CacheImportOffer, CapsAdvertise, QoeFrameAcknowledge}

-- the number in a header
abbrev pub number_of : ClientId → ℕ
number_of FrameAcknowledge = 0xD
number_of CacheImportOffer = 0x10
number_of CapsAdvertise = 0x12
number_of QoeFrameAcknowledge = 0x16

-- all of them
abbrev pub all_ids : List ClientId
all_ids = FrameAcknowledge ∷ CacheImportOffer ∷ CapsAdvertise ∷ QoeFrameAcknowledge ∷ []

-- the id that has this number, if one has
unfoldable pub id_of_number : ℕ → Option ClientId
id_of_number number = find (λ id. number_of id == number) all_ids
