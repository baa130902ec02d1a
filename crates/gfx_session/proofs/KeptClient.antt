-- How the client of a session begins with kept bitmaps.
use Rattle.std.specs.Prelude.{OnOk}
use Rattle.std.proofs.Common.{◌≡◌, ◌∙◌, ap, sym, subst, ℕ, Bool, true, List, [], ◌++◌, length, is_ok, Result, Ok, Err}
use Rattle.gfx_base.specs.declared.answer.NoMemory.{NoMemory}
use Rattle.gfx_base.specs.declared.refusal.Refusal.{Refusal}
use Rattle.gfx_bitmap_cache.specs.Slots.{Cached, Entry, cached}
use Rattle.gfx_client.specs.Standing.{Imports, StandsFrom}
use Rattle.gfx_client.specs.declared.client.Client.{Client}
use Rattle.gfx_import.specs.Entries.{IsKept}
use Rattle.gfx_import.specs.Imported.{imported}
use Rattle.gfx_import.specs.Messages.{offer_text, reply_text, taken_of}
use Rattle.gfx_import.specs.Offered.{offers_of}
use Rattle.gfx_import.specs.Started.{cache_by, in_slots, own}
use Rattle.gfx_import.proofs.MessageLemmas.{offer-answered}
use Rattle.gfx_import.proofs.StartedLemmas.{own-cached}
use Rattle.gfx_state.specs.State.{started_with}

is_given : {X : Type 0} (due : Result X Refusal) (x : X) → due ≡ Ok x → is_ok due ≡ true
is_given due x is = ap is_ok is

same_given : {X : Type 0} (due : Result X Refusal) (x y : X) → due ≡ Ok x → due ≡ Ok y → x ≡ y
same_given due x y one other = let both = sym one ∙ other in cc

-- the offer is answered by as many slots as bitmaps are imported
offer_taken : (server client : List Entry) (small : Bool) (offer : List ℕ) → IsKept client → offer ≡ [] ++ offer_text (offers_of client) → taken_of server offer small ≡ Ok (length (imported server client small))
offer_taken server client small offer kept is = ap (λ z. taken_of server z small) is ∙ offer-answered server client small kept

pub offer_accepted : (server client : List Entry) (small : Bool) (offer : List ℕ) → IsKept client → offer ≡ [] ++ offer_text (offers_of client) → is_ok (taken_of server offer small) ≡ true
offer_accepted server client small offer kept is = is_given _ _ (offer_taken server client small offer kept is)

-- the reply is one to these
pub replied : (due : Result ℕ Refusal) (n : ℕ) (before now : List ℕ) → due ≡ Ok n → now ≡ before ++ reply_text n → (count : ℕ) → due ≡ Ok count → now ≡ before ++ reply_text count
replied due n before now is put count other = put ∙ ap (λ z. before ++ reply_text z) (same_given due n count is other)

-- and a client that is answered so keeps its own
reply_taken : (server client : List Entry) (small : Bool) (offer answer : List ℕ) → IsKept client → offer ≡ [] ++ offer_text (offers_of client)
    → ((count : ℕ) → taken_of server offer small ≡ Ok count → answer ≡ [] ++ reply_text count) → cache_by client answer small ≡ Ok (cached (in_slots (own server client small)) small)
reply_taken server client small offer answer kept is replies =
    ap (λ z. cache_by client z small) (replies (length (imported server client small)) (offer_taken server client small offer kept is)) ∙ own-cached server client small

pub reply_accepted : (server client : List Entry) (small : Bool) (offer answer : List ℕ) → IsKept client → offer ≡ [] ++ offer_text (offers_of client)
    → ((count : ℕ) → taken_of server offer small ≡ Ok count → answer ≡ [] ++ reply_text count) → is_ok (cache_by client answer small) ≡ true
reply_accepted server client small offer answer kept is replies = is_given _ _ (reply_taken server client small offer answer kept is replies)

-- a client that has begun with a cache
pub begins_with : (due : Result Cached Refusal) (old new : Client) → Imports (Ok tt) old new due → (c : Cached) → due ≡ Ok c → StandsFrom (started_with c.slots c.small) new []
begins_with due old new (cache, is, begins) c other = subst (λ (z : Cached). StandsFrom (started_with z.slots z.small) new []) (same_given due cache c is other) begins.stands

pub begins_own : (result : Result (Unit {0}) NoMemory) (server kept : List Entry) (small : Bool) (offer answer : List ℕ) (new : Client) → IsKept kept → offer ≡ [] ++ offer_text (offers_of kept)
    → ((count : ℕ) → taken_of server offer small ≡ Ok count → answer ≡ [] ++ reply_text count)
    → OnOk result ((c : Cached) → cache_by kept answer small ≡ Ok c → StandsFrom (started_with c.slots c.small) new [])
    → OnOk result (StandsFrom (started_with (in_slots (own server kept small)) small) new [])
begins_own (Ok done) server kept small offer answer new is_kept is replies begins =
    begins (cached (in_slots (own server kept small)) small) (reply_taken server kept small offer answer is_kept is replies)
begins_own (Err e) server kept small offer answer new is_kept is replies begins = tt
