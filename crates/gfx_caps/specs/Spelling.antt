-- The bytes of a client's message: its header ([MS-RDPEGFX] 2.2.1.5) and its body.
use Rattle.std.specs.Prelude.{◌≡◌, ℕ, ◌+◌, ◌<◌, ◌^◌, List, ◌++◌, length, map}
use Rattle.std.specs.List.{AllByRecursion}
use Rattle.gfx_layout.specs.Header.{header, no_flags}
use Rattle.gfx_layout.specs.Layout.{Parts, spelled, measured}
use Rattle.gfx_layout.specs.Shape.{PartFits}
use Rattle.gfx_caps.specs.declared.client_id.ClientId.{ClientId}
use Rattle.gfx_caps.specs.declared.client_id.ClientId.TheVariants.{FrameAcknowledge, CacheImportOffer, CapsAdvertise, QoeFrameAcknowledge}
use Rattle.gfx_caps.specs.declared.message.ClientPdu.{ClientPdu}
use Rattle.gfx_caps.specs.declared.message.ClientPdu.TheVariants.{Advertise, Ack, ImportOffer, QoeAck}
use Rattle.gfx_caps.specs.declared.sets.CapsSet.{CapsSet}
use Rattle.gfx_caps.specs.ClientId.{number_of}
use Rattle.gfx_caps.specs.Entries.{cache_entry}
use Rattle.gfx_caps.specs.Layouts.{caps_set, layout_of}

-- the id of a message
abbrev pub id_of : ClientPdu → ClientId
id_of (Advertise sets) = CapsAdvertise
id_of (Ack depth frame total) = FrameAcknowledge
id_of (ImportOffer entries) = CacheImportOffer
id_of (QoeAck frame timestamp decoding rendering) = QoeFrameAcknowledge

-- the parts of a set, and of a message, in the order of their layouts
abbrev pub set_parts : CapsSet → Parts caps_set
set_parts set = (set.version, (set.body, tt))

abbrev pub parts_of : (pdu : ClientPdu) → Parts (layout_of (id_of pdu))
parts_of (Advertise sets) = (length sets, (map set_parts sets, tt))
parts_of (Ack depth frame total) = (depth, (frame, (total, tt)))
parts_of (ImportOffer entries) = (entries, tt)
parts_of (QoeAck frame timestamp decoding rendering) = (frame, (timestamp, (decoding, (rendering, tt))))

-- the bytes of a set, and how many they are
abbrev pub set_text : CapsSet → List ℕ
set_text set = spelled caps_set (set_parts set)

abbrev pub set_size : CapsSet → ℕ
set_size set = measured caps_set (set_parts set)

-- the body of a message
abbrev pub body : ClientPdu → List ℕ
body pdu = spelled (layout_of (id_of pdu)) (parts_of pdu)

-- how many bytes a message has, its header's 8 among them
unfoldable pub size : ClientPdu → ℕ
size pdu = 8 + measured (layout_of (id_of pdu)) (parts_of pdu)

-- the one spelling that is written: flags are zero
unfoldable pub spelling : ClientPdu → List ℕ
spelling pdu = header (number_of (id_of pdu)) no_flags (size pdu) ++ body pdu

-- these bytes are this message; its flags may be anything
pub record Spells (bytes : List ℕ) (pdu : ClientPdu) : Type 0 where
  pub flags : List ℕ
  pub two : length flags ≡ 2
  pub bytes_are : bytes ≡ header (number_of (id_of pdu)) flags (size pdu) ++ body pdu

-- the count of sets, or of entries, fits its field
abbrev pub CountFits : ClientPdu → Type 0
CountFits (Advertise sets) = length sets < 2 ^ 16
CountFits (Ack depth frame total) = Unit {0}
CountFits (ImportOffer entries) = length entries < 2 ^ 16
CountFits (QoeAck frame timestamp decoding rendering) = Unit {0}

-- the count fits its field, and so does the length of the whole, which no body's length passes
pub record IsSpellable (pdu : ClientPdu) : Type 0 where
  pub count : CountFits pdu
  pub short : size pdu < 2 ^ 32

-- the numbers fit their fields, as all of a program's do
abbrev pub NumbersFit : ClientPdu → Type 0
NumbersFit (Advertise sets) = AllByRecursion (λ (set : CapsSet). set.version < 2 ^ 32) sets
NumbersFit (Ack depth frame total) = (depth < 2 ^ 32) × (frame < 2 ^ 32) × (total < 2 ^ 32)
NumbersFit (ImportOffer entries) = AllByRecursion (PartFits cache_entry) entries
NumbersFit (QoeAck frame timestamp decoding rendering) = (frame < 2 ^ 32) × (timestamp < 2 ^ 32) × (decoding < 2 ^ 16) × (rendering < 2 ^ 16)

-- all fits its field
pub record Fits (pdu : ClientPdu) : Type 0 where
  pub numbers : NumbersFit pdu
  pub spellable : IsSpellable pdu
