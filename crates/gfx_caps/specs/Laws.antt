-- What reading and spelling a client's messages have to do with each other: this project's own promises.
use Rattle.std.specs.Prelude.{◌≡◌, ℕ, List, Ok}
use Rattle.gfx_base.specs.Field.{IsBytes}
use Rattle.gfx_caps.specs.declared.message.ClientPdu.{ClientPdu}
use Rattle.gfx_caps.specs.Reading.{client_of}
use Rattle.gfx_caps.specs.Spelling.{spelling, Spells, Fits}

-- what is read is spelled so, byte for byte; only flags are free; and all of it fits its field
abbrev pub ReadIsSpelled : Type 0
ReadIsSpelled = (bytes : List ℕ) (pdu : ClientPdu) → IsBytes bytes → client_of bytes ≡ Ok pdu → Spells bytes pdu × Fits pdu

-- what is spelled is read, whatever its flags are
abbrev pub SpelledIsRead : Type 0
SpelledIsRead = (bytes : List ℕ) (pdu : ClientPdu) → Fits pdu → Spells bytes pdu → client_of bytes ≡ Ok pdu

-- what is written is a spelling
abbrev pub WrittenIsSpelled : Type 0
WrittenIsSpelled = (pdu : ClientPdu) → Spells (spelling pdu) pdu
