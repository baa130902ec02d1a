-- Entries in slots, one after another: what stands where, how many bytes they take, and that they can be stored there.
use Rattle.std.proofs.Common.{◌≡◌, ◌≢◌, ◌∙◌, ap, sym, refl, cond, Bool, true, false, ◌&&◌, nat_le, ℕ, ◌+◌, ◌≤◌, ◌<◌, List, [], ◌∷◌, ◌++◌, length, take, drop, Some, None, is_some, Ok, Err, zero, suc, length-append, append_assoc, arith}
use Rattle.std.specs.Prelude.{IsSome, IsTrue, slice_get}
use Rattle.std.specs.Cmp.{nat_cmp_total}
use Rattle.std.specs.Ordering.{nat_cmp, eq_by_cmp}
use Rattle.std.specs.FinMap.{FinMap, empty, get, insert, get-insert, get-empty}
use Rattle.std.specs.List.{sum_by}
use Rattle.std.proofs.lemmas.Bool.Decides.{nat_tests}
use Rattle.std.proofs.lemmas.List.{append-nil, take-append-drop}
use Rattle.std.proofs.lemmas.List.Sums.{sum_by-append, sum_by-cons, sum_by-take-le}
use Rattle.gfx_base.specs.Outcome.{Gives, Applies}
use Rattle.gfx_base.specs.Results.{and_then, check}
use Rattle.gfx_base.specs.declared.answer.Cause.{Cause}
use Rattle.gfx_base.specs.declared.answer.Cause.TheVariants.{Refused, Memory}
use Rattle.gfx_base.specs.declared.refusal.Refusal.{Refusal}
use Rattle.gfx_base.specs.declared.refusal.Refusal.TheVariants.{SlotRange, CacheBudget, ImportCount}
use Rattle.gfx_base.proofs.ResultLemmas.{and_then_at, and_then_ok, and_then_refused}
use Rattle.gfx_bitmap_cache.specs.Slots.{Entry, Cached, IsCached, cached, bytes_of, bytes_at, total, is_slot, takes_slot, last_slot, budget, stored}
use Rattle.gfx_bitmap_cache.proofs.Sound.{stored-ok}
use Rattle.gfx_bitmap_cache.proofs.Totals.{total-empty, total-insert}
use Rattle.gfx_import.specs.Chosen.{AreShared}
use Rattle.gfx_import.specs.Imported.{imported}
use Rattle.gfx_import.specs.Laws.{OwnAreCached}
use Rattle.gfx_import.specs.Messages.{numbers_from, slots_of, reply_of}
use Rattle.gfx_import.specs.Started.{put_from, in_slots, own, stored_all, cache_by}
use Rattle.gfx_import.proofs.ChosenLemmas.{imported-chosen}
use Rattle.gfx_import.proofs.MessageLemmas.{reply-read}
use Rattle.gfx_import.proofs.TakingLemmas.{rest-at, rest-past, front-at}
use Rattle.gfx_import.proofs.WritingLemmas.{length-numbers}

-- ---- what stands where

get_here : (slots : FinMap nat_cmp Entry) (at : ℕ) (one : Entry) → get (insert slots at one) at ≡ Some one
get_here slots at one =
    let hit : eq_by_cmp nat_cmp at at ≡ true = grind (arith, nat_tests) in
    get-insert nat_cmp_total slots at one at ∙ ap (λ b. cond b (Some one) (get slots at)) hit

get_apart : (slots : FinMap nat_cmp Entry) (at q : ℕ) (one : Entry) → q ≢ at → get (insert slots at one) q ≡ get slots q
get_apart slots at q one apart =
    let miss : eq_by_cmp nat_cmp q at ≡ false = grind (arith, nat_tests) in
    get-insert nat_cmp_total slots at one q ∙ ap (λ b. cond b (Some one) (get slots q)) miss

-- nothing stands from this slot on
abbrev pub IsFreeFrom : FinMap nat_cmp Entry → ℕ → Type 0
IsFreeFrom slots at = (q : ℕ) → at ≤ q → get slots q ≡ None

free_empty : (at : ℕ) → IsFreeFrom empty at
free_empty at q low = get-empty nat_cmp q

free_more : (slots : FinMap nat_cmp Entry) (at : ℕ) (one : Entry) → IsFreeFrom slots at → IsFreeFrom (insert slots at one) (at + 1)
free_more slots at one free q low = get_apart slots at q one (λ e. omega arith) ∙ free q (omega arith)

-- below the first of them all is as it was
pub get-below : (slots : FinMap nat_cmp Entry) (at q : ℕ) (entries : List Entry) → q < at → get (put_from slots at entries) q ≡ get slots q
get-below slots at q [] below = refl
get-below slots at q (one ∷ entries) below = get-below (insert slots at one) (at + 1) q entries (omega arith) ∙ get_apart slots at q one (λ e. omega arith)

pub get-from : (slots : FinMap nat_cmp Entry) (at place : ℕ) (entries : List Entry) → IsFreeFrom slots at → get (put_from slots at entries) (at + place) ≡ slice_get entries place
get-from slots at place [] free = free (at + place) (omega arith)
get-from slots at zero (one ∷ entries) free =
    let here : at + 0 ≡ at = omega arith in
    ap (get (put_from slots at (one ∷ entries))) here ∙ get-below (insert slots at one) (at + 1) at entries (omega arith) ∙ get_here slots at one
get-from slots at (suc place) (one ∷ entries) free =
    let there : at + suc place ≡ at + 1 + place = omega arith in
    ap (get (put_from slots at (one ∷ entries))) there ∙ get-from (insert slots at one) (at + 1) place entries (free_more slots at one free)

-- the slot behind a place holds what stands there
pub get-in_slots : (entries : List Entry) (place : ℕ) → get (in_slots entries) (place + 1) ≡ slice_get entries place
get-in_slots entries place =
    let there : place + 1 ≡ 1 + place = omega arith in
    ap (get (in_slots entries)) there ∙ get-from empty 1 place entries (free_empty 1)

pub get-in_slots-zero : (entries : List Entry) → get (in_slots entries) 0 ≡ None
get-in_slots-zero entries = get-below empty 1 0 entries (omega arith) ∙ get-empty nat_cmp 0

past : {X : Type 0} (xs : List X) (place : ℕ) → length xs ≤ place → slice_get xs place ≡ None
past [] place far = refl
past (x ∷ xs) zero far = absurd (omega arith)
past (x ∷ xs) (suc place) far = past xs place (omega arith)

-- a filled slot is one of these
pub slot-in_slots : (entries : List Entry) (slot : ℕ) → IsSome (get (in_slots entries) slot) → (1 ≤ slot) × (slot ≤ length entries)
slot-in_slots entries zero there = let none : false ≡ true = sym (ap is_some (get-in_slots-zero entries)) ∙ there in absurd cc
slot-in_slots entries (suc place) there = (omega arith, by (nat_le (suc place) (length entries)) refl)
  where
    by : (b : Bool) → nat_le (suc place) (length entries) ≡ b → suc place ≤ length entries
    by true e = grind (arith, nat_tests)
    by false e =
        let far : length entries ≤ place = grind (arith, nat_tests) in
        let next : suc place ≡ place + 1 = omega arith in
        let none : false ≡ true = sym (ap is_some (ap (get (in_slots entries)) next ∙ get-in_slots entries place ∙ past entries place far)) ∙ there in
        absurd cc

-- ---- how many bytes they take

pub total-from : (slots : FinMap nat_cmp Entry) (at : ℕ) (entries : List Entry) → IsFreeFrom slots at → total (put_from slots at entries) ≡ total slots + sum_by bytes_of entries
total-from slots at [] free = omega arith
total-from slots at (one ∷ entries) free =
    let none : bytes_at (get slots at) ≡ 0 = ap bytes_at (free at (omega arith)) in
    let rest = total-from (insert slots at one) (at + 1) entries (free_more slots at one free) in
    omega (arith, none, rest, total-insert slots at one, sum_by-cons bytes_of one entries)

pub total-in_slots : (entries : List Entry) → total (in_slots entries) ≡ sum_by bytes_of entries
total-in_slots entries = omega (arith, total-from empty 1 entries (free_empty 1), total-empty)

-- ---- one more

pub put_from-append : (slots : FinMap nat_cmp Entry) (at : ℕ) (xs ys : List Entry) → put_from slots at (xs ++ ys) ≡ put_from (put_from slots at xs) (at + length xs) ys
put_from-append slots at [] ys = let same : at ≡ at + 0 = omega arith in ap (λ n. put_from slots n ys) same
put_from-append slots at (x ∷ xs) ys =
    let same : at + 1 + length xs ≡ at + length (x ∷ xs) = omega arith in
    put_from-append (insert slots at x) (at + 1) xs ys ∙ ap (λ n. put_from (put_from (insert slots at x) (at + 1) xs) n ys) same

pub in_slots-push : (front : List Entry) (one : Entry) → in_slots (front ++ one ∷ []) ≡ insert (in_slots front) (length front + 1) one
in_slots-push front one =
    let next : 1 + length front ≡ length front + 1 = omega arith in
    put_from-append empty 1 front (one ∷ []) ∙ ap (λ n. insert (in_slots front) n one) next

-- they are within the limits of every cache
slots_most : (small : Bool) (n : ℕ) → n ≤ last_slot small → n ≤ 25600
slots_most true n e = omega arith
slots_most false n e = e

bytes_most : (small : Bool) (n : ℕ) → n ≤ budget small → n ≤ 104857600
bytes_most true n e = omega arith
bytes_most false n e = e

pub in_slots-cached : (entries : List Entry) (small : Bool) → length entries ≤ last_slot small → sum_by bytes_of entries ≤ budget small → IsCached (cached (in_slots entries) small)
in_slots-cached entries small few within = record {
  slots = λ slot there. is_slot_from slot (slot-in_slots entries slot there) (slots_most small (length entries) few);
  within = bytes_most small (total (in_slots entries)) (omega (arith, within, total-in_slots entries));
}
  where
    is_slot_from : (slot : ℕ) → (1 ≤ slot) × (slot ≤ length entries) → length entries ≤ 25600 → IsTrue (is_slot slot)
    is_slot_from slot there most =
        let from = there.0 in
        let to = there.1 in
        grind (arith, nat_tests)

-- the next slot takes one more, as long as there are slots and room
pub stored-next : (front : List Entry) (one : Entry) (small : Bool) → length front < last_slot small → sum_by bytes_of front + bytes_of one ≤ budget small
    → stored (cached (in_slots front) small) (length front + 1) one ≡ Ok (cached (in_slots (front ++ one ∷ [])) small)
stored-next front one small few within =
    let none : bytes_at (get (in_slots front) (length front + 1)) ≡ 0 = ap bytes_at (get-in_slots front (length front) ∙ past front (length front) (omega arith)) in
    let room : total (insert (in_slots front) (length front + 1) one) ≤ budget small =
    omega (arith, within, none, total-insert (in_slots front) (length front + 1) one, total-in_slots front) in
    stored-ok (cached (in_slots front) small) (length front + 1) one (slot_taken (last_slot small) (length front) few) room
    ∙ ap (λ m. Ok (cached m small)) (sym (in_slots-push front one))
  where
    slot_taken : (last n : ℕ) → n < last → (nat_le 1 (n + 1) && nat_le (n + 1) last) ≡ true
    slot_taken last n below = grind (arith, nat_tests)

-- ---- what is imported, one after another

pub imported-few : (server client : List Entry) (small : Bool) → length (imported server client small) ≤ 25600
imported-few server client small = slots_most small (length (imported server client small)) (imported-chosen server client small).few

pub there-below : {X : Type 0} (xs : List X) (place : ℕ) → place < length xs → slice_get xs place ≡ None → ⊥
there-below [] place below none = omega arith
there-below (x ∷ xs) zero below none = absurd cc
there-below (x ∷ xs) (suc place) below none = there-below xs place (omega arith) none

length-front : {X : Type 0} (xs : List X) (place : ℕ) (x : X) → slice_get xs place ≡ Some x → (length (take place xs) ≡ place) × (place < length xs)
length-front [] place x e = absurd cc
length-front (y ∷ ys) zero x e = (refl, omega arith)
length-front (y ∷ ys) (suc place) x e =
    let rest = length-front ys place x e in
    (omega (arith, rest.0), omega (arith, rest.1))

-- the next slot takes the next of them
pub imported-next : (server client : List Entry) (small : Bool) (cache : Cached) (place : ℕ) (one : Entry) → cache ≡ cached (in_slots (take place (imported server client small))) small
    → slice_get (imported server client small) place ≡ Some one → stored cache (place + 1) one ≡ Ok (cached (in_slots (take (place + 1) (imported server client small))) small)
imported-next server client small cache place one so here =
    let list = imported server client small in
    let is = imported-chosen server client small in
    let front = take place list in
    let long = length-front list place one here in
    let next = front-at list place one here in
    let few = is.few in
    let whole : sum_by bytes_of front + bytes_of one ≤ budget small =
    omega (arith, ap (sum_by bytes_of) next, sum_by-append bytes_of front (one ∷ []), sum_by-cons bytes_of one [], sum_by-take-le bytes_of list (place + 1), is.small) in
    (λ i. stored (so i) (sym long.0 i + 1) one) ∙ stored-next front one small (omega (arith, long.0, long.1)) whole
    ∙ ap (λ z. Ok (cached (in_slots z) small)) (sym next)

-- ---- stores at the slots of a reply, one after another

module _ (cache start : Cached) (slots : List ℕ) (kept : List Entry) (place slot : ℕ) (so : stored_all cache (drop place slots) (drop place kept) ≡ stored_all start slots kept) (here : slice_get slots place ≡ Some slot) where
  -- no entry is left for a slot
  pub stores-short : slice_get kept place ≡ None → stored_all start slots kept ≡ Err ImportCount
  unfolding stored_all
  stores-short none =
      sym so ∙ ap (λ z. stored_all cache z (drop place kept)) (rest-at slots place slot here)
      ∙ ap (stored_all cache (slot ∷ drop (place + 1) slots)) (rest-past kept place none)

  -- the next entry is stored, and then the others
  stores-first : (one : Entry) → slice_get kept place ≡ Some one
      → stored_all start slots kept ≡ and_then (stored cache slot one) (λ next. stored_all next (drop (place + 1) slots) (drop (place + 1) kept))
  unfolding stored_all
  stores-first one there =
      sym so ∙ ap (λ z. stored_all cache z (drop place kept)) (rest-at slots place slot here)
      ∙ ap (stored_all cache (slot ∷ drop (place + 1) slots)) (rest-at kept place one there)

  pub stores-more : (one : Entry) (next : Cached) → slice_get kept place ≡ Some one → stored cache slot one ≡ Ok next
      → stored_all next (drop (place + 1) slots) (drop (place + 1) kept) ≡ stored_all start slots kept
  stores-more one next there e =
      sym (and_then_at (stored cache slot one) next (λ after. stored_all after (drop (place + 1) slots) (drop (place + 1) kept)) e)
      ∙ sym (stores-first one there)

  pub stores-fails : (one : Entry) (cause : Cause Refusal) (after : Cached) → slice_get kept place ≡ Some one → Applies (Err cause) cache after (stored cache slot one)
      → Gives {X = Cached} (λ c. c) (Err cause) (stored_all start slots kept)
  stores-fails one Memory after there e = tt
  stores-fails one (Refused r) after there e =
      stores-first one there ∙ and_then_refused (stored cache slot one) r (λ next. stored_all next (drop (place + 1) slots) (drop (place + 1) kept)) e.0

pub stores-end : (cache start : Cached) (slots : List ℕ) (kept : List Entry) (place : ℕ) → stored_all cache (drop place slots) (drop place kept) ≡ stored_all start slots kept → slice_get slots place ≡ None
    → stored_all start slots kept ≡ Ok cache
unfolding stored_all
stores-end cache start slots kept place so none = sym so ∙ ap (λ z. stored_all cache z (drop place kept)) (rest-past slots place none)

-- ---- all that a reply has slots for

pub stored-all : (front more rest : List Entry) (small : Bool) → length front + length more ≤ last_slot small → sum_by bytes_of front + sum_by bytes_of more ≤ budget small
    → stored_all (cached (in_slots front) small) (numbers_from (length front + 1) (length more)) (more ++ rest) ≡ Ok (cached (in_slots (front ++ more)) small)
unfolding stored_all
stored-all front [] rest small few within = ap (λ z. Ok (cached (in_slots z) small)) (sym (append-nil front))
stored-all front (one ∷ more) rest small few within =
    let long : length (front ++ one ∷ []) ≡ length front + 1 = length-append front (one ∷ []) in
    let heavy : sum_by bytes_of (front ++ one ∷ []) ≡ sum_by bytes_of front + bytes_of one =
    omega (arith, sum_by-append bytes_of front (one ∷ []), sum_by-cons bytes_of one []) in
    let all = sum_by-cons bytes_of one more in
    and_then_at (stored (cached (in_slots front) small) (length front + 1) one) (cached (in_slots (front ++ one ∷ [])) small)
    (λ next. stored_all next (numbers_from (length front + 1 + 1) (length more)) (more ++ rest))
    (stored-next front one small (omega arith) (omega arith))
    ∙ ap (λ n. stored_all (cached (in_slots (front ++ one ∷ [])) small) (numbers_from (n + 1) (length more)) (more ++ rest)) (sym long)
    ∙ stored-all (front ++ one ∷ []) more rest small (omega (arith, long)) (omega (arith, heavy))
    ∙ ap (λ z. Ok (cached (in_slots z) small)) (append_assoc front (one ∷ []) more)

-- what is imported names as many of the client's own entries, which take as many bytes
record Measured (own shared : List Entry) : Type 0 where
  long : length own ≡ length shared
  heavy : sum_by bytes_of own ≡ sum_by bytes_of shared

own-measured : (server client list : List Entry) → AreShared server client list → Measured (take (length list) client) list
own-measured server client [] shared = record { long = refl; heavy = refl }
own-measured server [] (held ∷ list) shared = absurd shared
own-measured server (one ∷ client) (held ∷ list) shared =
    let rest = own-measured server client list shared.1.1.1 in
    let same = shared.1.1.0 in record {
      long = omega (arith, rest.long);
      heavy = omega (arith, same, rest.heavy, sum_by-cons bytes_of one (take (length list) client), sum_by-cons bytes_of held list);
    }

-- a client that is answered by the reply to its own offer begins with its own
pub own-cached : OwnAreCached
unfolding cache_by and_then
own-cached server client small =
    let count = length (imported server client small) in
    let is = imported-chosen server client small in
    let most = slots_most small count is.few in
    let front = own server client small in
    let theirs = own-measured server client (imported server client small) is.shared in
    let whole : front ++ drop count client ≡ client = take-append-drop count client in
    let fits : count ≤ length client = omega (arith, theirs.long, ap length whole, length-append front (drop count client)) in
    rw (reply-read count most, enough count (length (slots_of count)) (length client) (length-numbers 1 count) fits)
    (ap (stored_all (cached empty small) (slots_of count)) (sym whole)
    ∙ ap (λ n. stored_all (cached empty small) (slots_of n) (front ++ drop count client)) (sym theirs.long)
    ∙ stored-all [] front (drop count client) small (omega (arith, theirs.long, is.few)) (omega (arith, theirs.heavy, is.small)))
  where
    enough : (count slots kept : ℕ) → slots ≡ count → count ≤ kept → nat_le slots kept ≡ true
    enough count slots kept e fits = grind (arith, nat_tests)

-- ---- the limits stay as they were chosen

stored-small : (cache next : Cached) (slot : ℕ) (one : Entry) → stored cache slot one ≡ Ok next → next.small ≡ cache.small
unfolding stored
stored-small cache next slot one e =
    let taken = and_then_ok (check SlotRange (takes_slot cache.small slot)) _ next e in
    let room = and_then_ok (check CacheBudget (nat_le (total (insert cache.slots slot one)) (budget cache.small))) _ next taken.2 in
    let made = room.2 in
    let same : cached (insert cache.slots slot one) cache.small ≡ next = cc in
    ap (λ (c : Cached). c.small) (sym same)

stored_all-small : (cache next : Cached) (slots : List ℕ) (entries : List Entry) → stored_all cache slots entries ≡ Ok next → next.small ≡ cache.small
unfolding stored_all
stored_all-small cache next [] entries e = let same : cache ≡ next = cc in ap (λ (c : Cached). c.small) (sym same)
stored_all-small cache next (slot ∷ slots) [] e = absurd cc
stored_all-small cache next (slot ∷ slots) (one ∷ entries) e =
    let first = and_then_ok (stored cache slot one) (λ after. stored_all after slots entries) next e in
    stored_all-small first.0 next slots entries first.2 ∙ stored-small cache first.0 slot one first.1

pub cache_by-small : (kept : List Entry) (reply : List ℕ) (small : Bool) (next : Cached) → cache_by kept reply small ≡ Ok next → next.small ≡ small
unfolding cache_by
cache_by-small kept reply small next e =
    let slots = and_then_ok (reply_of reply) _ next e in
    let enough = and_then_ok (check ImportCount (nat_le (length slots.0) (length kept))) _ next slots.2 in
    stored_all-small (cached empty small) next slots.0 kept enough.2
