-- How long the messages of a client are, and that those it writes of itself fit their fields.
use Rattle.std.proofs.Common.{◌≡◌, ℕ, ◌+◌, ◌*◌, ◌^◌, ◌<◌, ◌≤◌, List, [], ◌∷◌, length, map, fold, refl, ap, ◌∙◌, arith}
use Rattle.std.specs.List.{AllByRecursion}
use Rattle.std.proofs.lemmas.List.{length-map}
use Rattle.gfx_layout.specs.Layout.{measured}
use Rattle.gfx_layout.proofs.FoundLaws.{length-spelled}
use Rattle.gfx_caps.specs.declared.message.ClientPdu.{ClientPdu}
use Rattle.gfx_caps.specs.declared.message.ClientPdu.TheVariants.{Ack}
use Rattle.gfx_caps.specs.declared.offer.Offer.{Offer}
use Rattle.gfx_caps.specs.declared.offer.TheConstants.{MOST_OFFERS}
use Rattle.gfx_caps.specs.declared.sets.CapsSet.{CapsSet}
use Rattle.gfx_caps.specs.Layouts.{caps_set, layout_of}
use Rattle.gfx_caps.specs.Offers.{set_offered, advertised}
use Rattle.gfx_layout.specs.Header.{header}
use Rattle.gfx_caps.specs.Spelling.{id_of, parts_of, set_parts, size, spelling, IsSpellable, Fits}

-- a message is as long as it says
pub length-spelling : (pdu : ClientPdu) → length (spelling pdu) ≡ size pdu
unfolding spelling header size
length-spelling pdu = omega (arith, length-spelled (layout_of (id_of pdu)) (parts_of pdu))

-- no message is shorter than its header
pub size-least : (pdu : ClientPdu) → 8 ≤ size pdu
unfolding size
size-least pdu = omega arith

-- an acknowledgement
pub size-ack : (depth frame total : ℕ) → size (Ack depth frame total) ≡ 20
unfolding size
size-ack depth frame total = refl

pub ack_spellable : (depth frame total : ℕ) → IsSpellable (Ack depth frame total)
ack_spellable depth frame total = record { count = tt; short = omega (arith, size-ack depth frame total) }

pub ack_fits : (depth frame total : ℕ) → depth < 2 ^ 32 → frame < 2 ^ 32 → total < 2 ^ 32 → Fits (Ack depth frame total)
ack_fits depth frame total d f t = record { numbers = (d, f, t); spellable = ack_spellable depth frame total }

-- a set of an offer has 12 bytes
sets_offered : (before : ℕ) (offers : List Offer) → fold (λ n p. n + measured caps_set p) before (map set_parts (map set_offered offers)) ≡ before + 12 * length offers
sets_offered before [] = omega arith
sets_offered before (offer ∷ offers) = sets_offered (before + 12) offers ∙ omega arith

-- they stand behind the header and their count
pub size-advertised : (offers : List Offer) → size (advertised offers) ≡ 10 + 12 * length offers
unfolding size
size-advertised offers = ap (λ n. 8 + (2 + (n + 0))) (sets_offered 0 offers) ∙ omega arith

pub advertised_spellable : (offers : List Offer) → length offers ≤ MOST_OFFERS → IsSpellable (advertised offers)
advertised_spellable offers few = record {
  count = omega (arith, few, length-map offers set_offered);
  short = omega (arith, few, size-advertised offers);
}

-- where the versions have 32 bits, all of the message fits its field
versions_fit : (offers : List Offer) → AllByRecursion (λ (offer : Offer). offer.version < 2 ^ 32) offers → AllByRecursion (λ (set : CapsSet). set.version < 2 ^ 32) (map set_offered offers)
versions_fit [] all = tt
versions_fit (offer ∷ offers) all = (all.0, versions_fit offers all.1)

pub advertised_fits : (offers : List Offer) → length offers ≤ MOST_OFFERS → AllByRecursion (λ (offer : Offer). offer.version < 2 ^ 32) offers → Fits (advertised offers)
advertised_fits offers few all = record { numbers = versions_fit offers all; spellable = advertised_spellable offers few }
