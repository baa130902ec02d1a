-- The bitmaps that an end begins a session with, in their slots ([MS-RDPEGFX] 3.2.5.13, 2.2.2.17).
use Rattle.std.specs.Prelude.{ℕ, ◌+◌, nat_le, Bool, List, [], ◌∷◌, length, take, Result, Ok, Err}
use Rattle.std.specs.Ordering.{nat_cmp}
use Rattle.std.specs.FinMap.{FinMap, empty, insert}
use Rattle.gfx_base.specs.Results.{◌>>=◌, check}
use Rattle.gfx_base.specs.declared.refusal.Refusal.{Refusal}
use Rattle.gfx_base.specs.declared.refusal.Refusal.TheVariants.{ImportCount}
use Rattle.gfx_bitmap_cache.specs.Slots.{Entry, Cached, cached, stored}
use Rattle.gfx_import.specs.Imported.{imported}
use Rattle.gfx_import.specs.Messages.{reply_of}

-- entries are put into slots from this one on, one after another
abbrev pub put_from : FinMap nat_cmp Entry → ℕ → List Entry → FinMap nat_cmp Entry
put_from slots at [] = slots
put_from slots at (one ∷ more) = put_from (insert slots at one) (at + 1) more

-- entries in slots 1, 2 and so on
abbrev pub in_slots : List Entry → FinMap nat_cmp Entry
in_slots entries = put_from empty 1 entries

-- what the client itself keeps under the keys that are imported: its first entries, as many
abbrev pub own : List Entry → List Entry → Bool → List Entry
own server client small = take (length (imported server client small)) client

-- entries are stored at these slots, one after another, each within the limits of the cache
unfoldable pub stored_all : Cached → List ℕ → List Entry → Result Cached Refusal
stored_all cache [] entries = Ok cache
stored_all cache (slot ∷ slots) [] = Err ImportCount
stored_all cache (slot ∷ slots) (one ∷ entries) = do
  next ← stored cache slot one
  stored_all next slots entries

-- the cache of a client that kept these entries and is answered by these bytes: the first entries are stored at the
-- slots of the reply, in its order
unfoldable pub cache_by : List Entry → List ℕ → Bool → Result Cached Refusal
cache_by kept reply small = do
  slots ← reply_of reply
  enough ← check ImportCount (nat_le (length slots) (length kept))
  stored_all (cached empty small) slots kept
