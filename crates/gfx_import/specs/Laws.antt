-- What files and messages have to do with each other: this project's own promises.
use Rattle.std.specs.Prelude.{◌≡◌, ℕ, ◌≤◌, Bool, List, length, Ok}
use Rattle.gfx_bitmap_cache.specs.Slots.{Entry, cached}
use Rattle.gfx_import.specs.Entries.{IsKept}
use Rattle.gfx_import.specs.File.{entries_of, file_text}
use Rattle.gfx_import.specs.Offered.{offers_of}
use Rattle.gfx_import.specs.Imported.{imported}
use Rattle.gfx_import.specs.Messages.{offer_text, reply_of, reply_text, slots_of, taken_of}
use Rattle.gfx_import.specs.Started.{cache_by, in_slots, own}

-- what is written of kept entries is read as these
abbrev pub FileIsReadBack : Type 0
FileIsReadBack = (entries : List Entry) → IsKept entries → entries_of (file_text entries) ≡ Ok entries

-- an offer of all that a client keeps is answered by as many slots as bitmaps are imported
abbrev pub OfferIsAnswered : Type 0
OfferIsAnswered =
    (server client : List Entry) (small : Bool) → IsKept client
    → taken_of server (offer_text (offers_of client)) small ≡ Ok (length (imported server client small))

-- and the client reads these slots of the reply, from 1 on
abbrev pub ReplyIsRead : Type 0
ReplyIsRead = (count : ℕ) → count ≤ 25600 → reply_of (reply_text count) ≡ Ok (slots_of count)

-- a client that is answered by the reply to its own offer begins with its own bitmaps, in slots 1, 2 and so on
abbrev pub OwnAreCached : Type 0
OwnAreCached =
    (server client : List Entry) (small : Bool)
    → cache_by client (reply_text (length (imported server client small))) small ≡ Ok (cached (in_slots (own server client small)) small)
