-- The header of a message, whichever way it goes ([MS-RDPEGFX] 2.2.1.5): the number of its id, flags, and the length
-- of the whole; and which fault is the first, this project's own rule.
use Rattle.std.specs.Prelude.{ℕ, Bool, ◌&&◌, is_ok, List, [], ◌∷◌, ◌++◌, length, nat_lt, if◌then◌else◌, Option, Result, Ok, Err}
use Rattle.std.specs.Option.{ok_or}
use Rattle.std.specs.Int.{w16, w32}
use Rattle.gfx_base.specs.Field.{number_at}
use Rattle.gfx_base.specs.declared.refusal.Refusal.{Refusal}
use Rattle.gfx_base.specs.declared.refusal.Refusal.TheVariants.{PduTruncated, PduLength, PduUnknown, CountMismatch}
use Rattle.gfx_layout.specs.declared.stop.Stop.{Stop}
use Rattle.gfx_layout.specs.declared.stop.Stop.TheVariants.{Short, Long, Rule}
use Rattle.gfx_layout.specs.Shape.{digits, u16, u32}

-- how many bytes the message at the front has, its header's 8 among them
unfoldable pub size_of : List ℕ → Result ℕ Refusal
size_of bytes =
    if nat_lt (length bytes) 8 then Err PduTruncated
    else if nat_lt (number_at w32 bytes 4) 8 then Err PduLength
    else if nat_lt (length bytes) (number_at w32 bytes 4) then Err PduTruncated
    else Ok (number_at w32 bytes 4)

-- which message a header announces, by the numbers of the ids; the flags behind the id are not read
unfoldable pub kind_by : {Id : Type 0} → (ℕ → Option Id) → List ℕ → Result Id Refusal
kind_by id_of_number bytes = ok_or (id_of_number (number_at w16 bytes 0)) PduUnknown

-- the header is accepted
abbrev pub is_headed : {Id : Type 0} → (ℕ → Option Id) → List ℕ → Bool
is_headed id_of_number bytes = is_ok (size_of bytes) && is_ok (kind_by id_of_number bytes)

-- why a body is refused: one that doesn't end with its fields is CountMismatch
abbrev pub refusal_of : Stop → Refusal
refusal_of Short = CountMismatch
refusal_of Long = CountMismatch
refusal_of (Rule refusal) = refusal

-- what was read of a body, or its refusal
abbrev pub refused : {X : Type 0} → Result X Stop → Result X Refusal
refused (Ok x) = Ok x
refused (Err stop) = Err (refusal_of stop)

-- a header: the number of the id, flags, length of the whole message
unfoldable pub header : ℕ → List ℕ → ℕ → List ℕ
header number flags whole = digits u16 number ++ (flags ++ digits u32 whole)

-- the flags that are written
abbrev pub no_flags : List ℕ
no_flags = 0 ∷ 0 ∷ []
