-- The version that a server's end confirms of the offers of a script.
use Rattle.std.proofs.Common.{◌≡◌, ℕ, ◌+◌, ◌<◌, ◌≤◌, ◌^◌, ◌==◌, Bool, true, false, ◌&&◌, ◌||◌, not, List, [], ◌∷◌, ◌++◌, length, map, Option, Some, None, Ok, IsTrue, refl, sym, ap, ◌∙◌, arith, inl, inr, eq-eqb}
use Rattle.std.proofs.lemmas.Bool.{cases_Bool, eqb-true, and_parts}
use Rattle.std.specs.Int.{w32}
use Rattle.std.specs.List.{find, AllByRecursion}
use Rattle.gfx_base.specs.Field.{number_at}
use Rattle.gfx_base.specs.Results.{check}
use Rattle.gfx_base.proofs.ResultLemmas.{and_then_at}
use Rattle.gfx_base.specs.declared.refusal.Refusal.TheVariants.{CapsVersion}
use Rattle.gfx_bitmap_cache.specs.Slots.{cached}
use Rattle.gfx_layout.specs.Shape.{digits, u32}
use Rattle.gfx_caps.specs.declared.choice.Chosen.{Chosen}
use Rattle.gfx_caps.specs.declared.offer.Offer.{Offer}
use Rattle.gfx_caps.specs.declared.versions.TheConstants.{VERSION_8, VERSION_8_1, VERSION_10, FLAGS_SIZE}
use Rattle.gfx_caps.specs.Choice.{allows, binds_small, choice, confirmed}
use Rattle.gfx_caps.specs.Offers.{set_offered, is_small, offer_of, offers_version, IsOffer, advertised}
use Rattle.gfx_caps.proofs.OfferLaws.{found, kept_from}
use Rattle.gfx_pdu.specs.declared.pdu.Pdu.TheVariants.{CapsConfirm}
use Rattle.gfx_pdu.specs.Spelling.{size}
use Rattle.gfx_pdu.proofs.Laws.{length-spelling}
use Rattle.gfx_script.specs.Script.{IsAcceptedFrom}
use Rattle.gfx_script.specs.Checks.{Held}
use Rattle.gfx_script.specs.Scripted.{Script}
use Rattle.gfx_state.specs.Sending.{sent, IsCarried}
use Rattle.gfx_state.specs.State.{State}
use Rattle.gfx_state.specs.Step.{step, is_version, has_small_cache, caps_confirmed}
use Rattle.gfx_planner.proofs.Effects.{all_steps-one}
use Rattle.gfx_schedule.specs.Hearing.{Heard, confirm, told}
use Rattle.gfx_schedule.specs.Hearing.{confirms as after_choice}
use Rattle.gfx_schedule.specs.Words.{tell}
use Rattle.gfx_schedule.proofs.Flights.{Extends, frames_inside}

-- what is confirmed ------------------------------------------------------------------------------------------

-- a version of the profile, with a word of flags
pub record IsChosen (chosen : Chosen) : Type 0 where
  pub version : is_version chosen.version ≡ true
  pub fits : chosen.version < 2 ^ 32
  pub word : length (digits u32 chosen.flags) ≡ FLAGS_SIZE
  pub flags : number_at w32 (digits u32 chosen.flags) 0 ≡ chosen.flags

-- the flags that are kept of an offer are one word
word_of : (small thin ten keeps : Bool) → (length (digits u32 (kept_from small thin ten keeps)) ≡ FLAGS_SIZE) × (number_at w32 (digits u32 (kept_from small thin ten keeps)) 0 ≡ kept_from small thin ten keeps)
word_of true true true true = (refl, refl)
word_of true true true false = (refl, refl)
word_of true true false true = (refl, refl)
word_of true true false false = (refl, refl)
word_of true false true true = (refl, refl)
word_of true false true false = (refl, refl)
word_of true false false true = (refl, refl)
word_of true false false false = (refl, refl)
word_of false true true true = (refl, refl)
word_of false true true false = (refl, refl)
word_of false true false true = (refl, refl)
word_of false true false false = (refl, refl)
word_of false false true true = (refl, refl)
word_of false false true false = (refl, refl)
word_of false false false true = (refl, refl)
word_of false false false false = (refl, refl)

is_chosen : (version : ℕ) (offer : Offer) → is_version version ≡ true → version < 2 ^ 32 → IsChosen (confirmed version (set_offered offer))
is_chosen version offer known fits =
    let word = word_of offer.small offer.thin (offer.version == VERSION_10) (version == VERSION_10) in
    record { version = known; fits = fits; word = word.0; flags = word.1 }

-- some offer is chosen ---------------------------------------------------------------------------------------

missed : {X : Type 0} (p : X → Bool) (x : X) (xs : List X) → find p (x ∷ xs) ≡ None → p x ≡ false
missed p x xs e = elim (cases_Bool (p x)) [ inl hit ↦ (let there : find p (x ∷ xs) ≡ Some x = rw hit refl in absurd cc) | inr miss ↦ miss ]

none_missing : (a b c : Bool) → IsTrue (a || (b || c)) → a ≡ false → b ≡ false → c ≡ false → ⊥
none_missing a b c some x y z = absurd cc

pub record Chooses (offers : List Offer) : Type 0 where
  pub chosen : Chosen
  pub is : choice (map set_offered offers) ≡ Ok chosen
  pub good : IsChosen chosen

chooses : (offers : List Offer) (newest middle oldest : Option Offer) → offer_of VERSION_10 offers ≡ newest → offer_of VERSION_8_1 offers ≡ middle → offer_of VERSION_8 offers ≡ oldest
    → (newest ≡ None → middle ≡ None → oldest ≡ None → ⊥) → Chooses offers
unfolding choice
chooses offers (Some offer) middle oldest first second third some = record {
  chosen = confirmed VERSION_10 (set_offered offer);
  is = rw (found VERSION_10 offers, first) refl;
  good = is_chosen VERSION_10 offer refl (omega arith);
}
chooses offers None (Some offer) oldest first second third some = record {
  chosen = confirmed VERSION_8_1 (set_offered offer);
  is = rw (found VERSION_10 offers, first, found VERSION_8_1 offers, second) refl;
  good = is_chosen VERSION_8_1 offer refl (omega arith);
}
chooses offers None None (Some offer) first second third some = record {
  chosen = confirmed VERSION_8 (set_offered offer);
  is = rw (found VERSION_10 offers, first, found VERSION_8_1 offers, second, found VERSION_8 offers, third) refl;
  good = is_chosen VERSION_8 offer refl (omega arith);
}
chooses offers None None None first second third some = absurd (some refl refl refl)

pub some_chosen : (offers : List Offer) → 1 ≤ length offers → AllByRecursion IsOffer offers → Chooses offers
some_chosen [] some all = absurd (omega (arith, some))
some_chosen (offer ∷ offers) some all =
    chooses (offer ∷ offers) (offer_of VERSION_10 (offer ∷ offers)) (offer_of VERSION_8_1 (offer ∷ offers)) (offer_of VERSION_8 (offer ∷ offers)) refl refl refl
    (λ a b c. none_missing (offers_version VERSION_10 offer) (offers_version VERSION_8_1 offer) (offers_version VERSION_8 offer) all.0
    (missed (offers_version VERSION_10) offer offers a) (missed (offers_version VERSION_8_1) offer offers b) (missed (offers_version VERSION_8) offer offers c))

-- an offer of a version has its number
of_version : (version : ℕ) (offer : Offer) → offers_version version offer ≡ true → offer.version ≡ version
of_version version offer is = eqb-true offer.version version (and_parts (offer.version == version) (allows version offer.thin) is).0

pub version_fits : (offer : Offer) → IsOffer offer → offer.version < 2 ^ 32
version_fits offer is = elim (cases_Bool (offers_version VERSION_10 offer)) [
  | inl ten ↦ omega (arith, of_version VERSION_10 offer ten)
  | inr other ↦ elim (cases_Bool (offers_version VERSION_8_1 offer)) [
    | inl middle ↦ omega (arith, of_version VERSION_8_1 offer middle)
    | inr last ↦ elim (cases_Bool (offers_version VERSION_8 offer)) [
      | inl oldest ↦ omega (arith, of_version VERSION_8 offer oldest)
      | inr none ↦ absurd (none_missing (offers_version VERSION_10 offer) (offers_version VERSION_8_1 offer) (offers_version VERSION_8 offer) is other last none)
    ]
  ]
]

-- its confirmation -------------------------------------------------------------------------------------------

confirm_size : (version : ℕ) (flags : List ℕ) → size (CapsConfirm version flags) ≡ 16 + length flags
unfolding size
confirm_size version flags = omega arith

confirm_carried : (chosen : Chosen) → IsChosen chosen → IsCarried (confirm chosen)
confirm_carried chosen good =
    let size_is = confirm_size chosen.version (digits u32 chosen.flags) in
    record {
      fits = record { numbers = good.fits; spellable = record { counts = tt; short = omega (arith, size_is, good.word) } };
      short = omega (arith, length-spelling (confirm chosen), size_is, good.word);
    }

-- the client's state behind it: only the limits may be others
abbrev pub limited : State → Bool → State
limited client small = record client { cache = cached client.cache.slots small }

both_hold : (a b : Bool) → a ≡ true → b ≡ true → (a && b) ≡ true
both_hold true b first second = second
both_hold false b first second = absurd cc

step_confirm : (client : State) (chosen : Chosen) → IsChosen chosen → step client (confirm chosen) ≡ Ok (limited client (binds_small chosen.flags))
unfolding step caps_confirmed
step_confirm client chosen good =
    let known : (is_version chosen.version && (length (digits u32 chosen.flags) == FLAGS_SIZE)) ≡ true = both_hold (is_version chosen.version) (length (digits u32 chosen.flags) == FLAGS_SIZE) good.version (eq-eqb (length (digits u32 chosen.flags)) FLAGS_SIZE good.word) in
    and_then_at (check CapsVersion (is_version chosen.version && (length (digits u32 chosen.flags) == FLAGS_SIZE))) tt (λ known. Ok (limited client (has_small_cache (digits u32 chosen.flags)))) (ap (λ b. check CapsVersion b) known)
    ∙ ap (λ n. Ok (limited client (binds_small n))) good.flags

-- what a server's end makes of a script's offers ----------------------------------------------------------------

pub record Confirms (script : Script) : Type 0 where
  pub chosen : Chosen
  pub is : choice (map set_offered script.offers) ≡ Ok chosen
  pub allowed : (binds_small chosen.flags && not script.small) ≡ false
  pub carried : IsCarried (confirm chosen)
  pub good : IsChosen chosen
  pub small : binds_small chosen.flags ≡ script.small

never_both : (a b : Bool) → a ≡ b → (a && not b) ≡ false
never_both true true e = refl
never_both false b e = refl
never_both true false e = absurd cc

pub confirms : (script : Script) (held : Held) → IsAcceptedFrom held script → Confirms script
confirms script held good =
    let some = some_chosen script.offers good.some_offers good.offers in
    let small : binds_small some.chosen.flags ≡ script.small = ap is_small (sym some.is) ∙ sym good.small in
    record {
      chosen = some.chosen;
      is = some.is;
      allowed = never_both (binds_small some.chosen.flags) script.small small;
      carried = confirm_carried some.chosen some.good;
      good = some.good;
      small = small;
    }

-- the confirmation at a client, which stays in a relation to the server's state that its new limits keep
pub confirm_extends : (R : State → State → Type 0) (script : Script) (c : Confirms script) (server client : State) → R server (limited client script.small) → Extends R client server (confirm c.chosen ∷ []) (λ last. [])
confirm_extends R script c server client related =
    let stepped : step client (confirm c.chosen) ≡ Ok (limited client script.small) = step_confirm client c.chosen c.good ∙ ap (λ b. Ok (limited client b)) c.small in
    let accepted = all_steps-one client (limited client script.small) (confirm c.chosen) stepped in
    record {
      last = limited client script.small;
      accepted = accepted;
      related = related;
      frames = frames_inside client (limited client script.small) (confirm c.chosen ∷ []) (refl, tt) accepted;
    }

-- the server's end behind the offers
pub tell_offers : (script : Script) (heard : Heard) (c : Confirms script)
    → tell script heard (advertised script.offers) ≡ record heard { end = record heard.end { heard = []; confirmed = true }; out = heard.out ++ sent (confirm c.chosen ∷ []) }
unfolding told after_choice
tell_offers script heard c = rw (c.is, c.allowed) refl
