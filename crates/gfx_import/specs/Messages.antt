-- The offer of a client and the reply of a server ([MS-RDPEGFX] 2.2.2.16, 2.2.2.17), and which fault is the first.
use Rattle.std.specs.Prelude.{ℕ, zero, suc, ◌+◌, ◌-◌, ◌==◌, Bool, ◌&&◌, is_ok, List, [], ◌∷◌, ◌++◌, length, take, drop, Result, Ok}
use Rattle.std.specs.Int.{w16}
use Rattle.gfx_base.specs.Field.{number_at}
use Rattle.gfx_base.specs.Results.{◌>>=◌, check}
use Rattle.gfx_base.specs.declared.refusal.Refusal.{Refusal}
use Rattle.gfx_base.specs.declared.refusal.Refusal.TheVariants.{PduUnknown, CountMismatch}
use Rattle.gfx_layout.specs.Shape.{u16, number_alone}
use Rattle.gfx_layout.specs.Layout.{Layout, Parts, done, list, spelled, measured}
use Rattle.gfx_layout.specs.Header.{size_of, refused, header, no_flags}
use Rattle.gfx_layout.specs.Reading.{read_whole}
use Rattle.gfx_bitmap_cache.specs.Slots.{Entry}
use Rattle.gfx_caps.specs.declared.entries.CacheEntry.{CacheEntry}
use Rattle.gfx_caps.specs.Layouts.{cache_import_offer}
use Rattle.gfx_import.specs.declared.limits.TheConstants.{OFFER, REPLY}
use Rattle.gfx_import.specs.Imported.{answered}

-- the body of RDPGFX_CACHE_IMPORT_OFFER_PDU, 2.2.2.16
abbrev pub import_offer : Layout (List CacheEntry)
import_offer = cache_import_offer (λ offers. offers)

-- the body of RDPGFX_CACHE_IMPORT_REPLY_PDU, 2.2.2.17
abbrev pub import_reply : Layout (List ℕ)
import_reply = list u16 (number_alone u16) λ slots. done slots

-- what bytes say that are one message with this number, whose body has this layout; whether they end with it is
-- judged last (this project's own rule)
unfoldable pub message_of : {X : Type 0} → ℕ → Layout X → List ℕ → Result X Refusal
message_of number layout bytes = do
  size ← size_of bytes
  known ← check PduUnknown (number_at w16 bytes 0 == number)
  says ← refused (read_whole layout (take (size - 8) (drop 8 bytes)))
  alone ← check CountMismatch (size == length bytes)
  Ok says

-- what an offer offers, and which slots a reply announces
abbrev pub offer_of : List ℕ → Result (List CacheEntry) Refusal
offer_of bytes = message_of OFFER import_offer bytes

abbrev pub reply_of : List ℕ → Result (List ℕ) Refusal
reply_of bytes = message_of REPLY import_reply bytes

-- the header of a message with this number is accepted
abbrev pub is_headed : ℕ → List ℕ → Bool
is_headed number bytes = is_ok (size_of bytes) && number_at w16 bytes 0 == number

-- the bytes of a message with this number, whose flags are zero
unfoldable pub message_text : {X : Type 0} → ℕ → (layout : Layout X) → Parts layout → List ℕ
message_text number layout parts = header number no_flags (8 + measured layout parts) ++ spelled layout parts

-- the message that offers these
abbrev pub offer_text : List CacheEntry → List ℕ
offer_text offers = message_text OFFER import_offer (offers, tt)

-- so many numbers, one after another
abbrev pub numbers_from : ℕ → ℕ → List ℕ
numbers_from first zero = []
numbers_from first (suc count) = first ∷ numbers_from (first + 1) count

-- the slots of so many entries: they count from 1
abbrev pub slots_of : ℕ → List ℕ
slots_of count = numbers_from 1 count

-- the message that announces so many entries
abbrev pub reply_text : ℕ → List ℕ
reply_text count = message_text REPLY import_reply (slots_of count, tt)

-- how many entries a server takes of an offer
unfoldable pub taken_of : List Entry → List ℕ → Bool → Result ℕ Refusal
taken_of server bytes small = do
  offers ← offer_of bytes
  Ok (length (answered server offers small))
