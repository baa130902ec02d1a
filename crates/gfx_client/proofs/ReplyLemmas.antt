-- What a client writes to the server.
use Rattle.std.proofs.Common.{◌≡◌, ℕ, ◌<◌, ◌≤◌, ◌^◌, List, [], ◌∷◌, ◌++◌, length, sym, ap, ◌∙◌, subst, arith}
use Rattle.std.proofs.lemmas.List.{append-nil}
use Rattle.std.proofs.lemmas.Grind.{flat_map-append}
use Rattle.std.specs.List.{AllByRecursion}
use Rattle.gfx_caps.specs.declared.message.ClientPdu.{ClientPdu}
use Rattle.gfx_caps.specs.declared.message.ClientPdu.TheVariants.{Ack}
use Rattle.gfx_caps.specs.declared.offer.Offer.{Offer}
use Rattle.gfx_caps.specs.declared.offer.TheConstants.{MOST_OFFERS}
use Rattle.gfx_caps.specs.Offers.{advertised}
use Rattle.gfx_caps.specs.Spelling.{size, spelling, IsSpellable, Fits}
use Rattle.gfx_caps.proofs.SizeLaws.{length-spelling, size-least, size-ack, ack_fits, size-advertised, advertised_spellable, advertised_fits}
use Rattle.gfx_caps.proofs.Laws.{client_of-spells, spelling-spells}
use Rattle.gfx_base.specs.declared.TheConstants.{MOST_MESSAGE}
use Rattle.gfx_segment.proofs.ReadBackLemmas.{front-prefixed}
use Rattle.gfx_state.specs.History.{Effect}
use Rattle.gfx_client.specs.Replies.{reply_in, stepped_by, replies, IsRead}

-- the replies to two histories, one after the other
pub replies-append : (xs ys : List Effect) → replies (xs ++ ys) ≡ replies xs ++ replies ys
replies-append xs ys = flat_map-append (λ (effect : Effect). reply_in (stepped_by effect)) xs ys

pub replies-next : (all : List Effect) (next : Effect) → replies (all ++ next ∷ []) ≡ replies all ++ reply_in (stepped_by next)
replies-next all next = replies-append all (next ∷ []) ∙ ap (λ z. replies all ++ z) (append-nil (reply_in (stepped_by next)))

-- the message of offers that a client holds
pub hello_spellable : (offers given : List Offer) (pdu : ClientPdu) → length offers ≤ MOST_OFFERS → given ≡ offers → pdu ≡ advertised given → IsSpellable pdu
hello_spellable offers given pdu few same is = subst IsSpellable (sym (is ∙ ap advertised same)) (advertised_spellable offers few)

pub hello_short : (offers given : List Offer) (pdu : ClientPdu) → length offers ≤ MOST_OFFERS → given ≡ offers → pdu ≡ advertised given → size pdu ≤ MOST_MESSAGE
hello_short offers given pdu few same is = omega (arith, few, ap size (is ∙ ap advertised same), size-advertised offers)

-- what is written is read
is_read : (pdu : ClientPdu) (more : List ℕ) → Fits pdu → size pdu ≤ MOST_MESSAGE → IsRead pdu more
is_read pdu more fits short = record {
  whole = front-prefixed (spelling pdu) more (record { some = omega (arith, length-spelling pdu, size-least pdu); most = omega (arith, length-spelling pdu, short) });
  same = client_of-spells (spelling pdu) pdu fits (spelling-spells pdu);
}

pub hello_read : (offers : List Offer) (more : List ℕ) → length offers ≤ MOST_OFFERS → AllByRecursion (λ (offer : Offer). offer.version < 2 ^ 32) offers → IsRead (advertised offers) more
hello_read offers more few all = is_read (advertised offers) more (advertised_fits offers few all) (omega (arith, few, size-advertised offers))

pub acknowledgement_read : (frame decoded : ℕ) (more : List ℕ) → frame < 2 ^ 32 → decoded < 2 ^ 32 → IsRead (Ack 0 frame decoded) more
acknowledgement_read frame decoded more f d = is_read (Ack 0 frame decoded) more (ack_fits 0 frame decoded (omega arith) f d) (omega (arith, size-ack 0 frame decoded))
