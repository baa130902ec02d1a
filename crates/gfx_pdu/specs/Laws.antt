-- What reading and spelling have to do with each other: this project's own promises.
use Rattle.std.specs.Prelude.{◌≡◌, ℕ, ◌<◌, List, ◌++◌, length, Some, Ok, Err}
use Rattle.gfx_base.specs.Field.{IsBytes}
use Rattle.gfx_base.specs.declared.refusal.Refusal.TheVariants.{PduTruncated}
use Rattle.gfx_pdu.specs.declared.pdu.Pdu.{Pdu}
use Rattle.gfx_pdu.specs.Reading.{message_at}
use Rattle.gfx_pdu.specs.Spelling.{spelling, Spells, Begins, IsSpellable, Fits}

-- what is read stands at the front, byte for byte; only flags and padding are free
abbrev pub ReadIsSpelled : Type 0
ReadIsSpelled = (bytes : List ℕ) (pdu : Pdu) (count : ℕ) → IsBytes bytes → message_at bytes ≡ Ok (Some (pdu, count)) → Begins bytes pdu count

-- what is spelled is read, whatever follows, and whatever its flags and its padding are
abbrev pub SpelledIsRead : Type 0
SpelledIsRead = (text more : List ℕ) (pdu : Pdu) → Fits pdu → Spells text pdu → message_at (text ++ more) ≡ Ok (Some (pdu, length text))

-- what is written is a spelling
abbrev pub WrittenIsSpelled : Type 0
WrittenIsSpelled = (pdu : Pdu) → Spells (spelling pdu) pdu

-- a beginning of a spelling that is neither empty nor the whole is too short
abbrev pub CutIsTruncated : Type 0
CutIsTruncated = (text front rest : List ℕ) (pdu : Pdu) → IsSpellable pdu → Spells text pdu → text ≡ front ++ rest → 0 < length front → 0 < length rest → message_at front ≡ Err PduTruncated
