-- The sets of offers: which of them qualify, and what a choice keeps of their flags.
use Rattle.std.proofs.Common.{◌≡◌, ◌∙◌, ℕ, ◌+◌, ◌==◌, Bool, true, false, ◌&&◌, not, bit_and, if◌then◌else◌, List, [], ◌∷◌, map, Option, Some, None, refl, sym, ap, inl, inr}
use Rattle.std.proofs.lemmas.Bool.{cases_Bool, and_parts}
use Rattle.std.specs.Prelude.{IfSome}
use Rattle.std.specs.Int.{w32}
use Rattle.std.specs.List.{find}
use Rattle.std.specs.Option.{option_map, option_or, ok_or}
use Rattle.gfx_base.specs.Field.{number_at}
use Rattle.gfx_base.specs.declared.refusal.Refusal.TheVariants.{CapsVersion}
use Rattle.gfx_layout.specs.Shape.{digits, u32}
use Rattle.gfx_caps.specs.declared.choice.Chosen.{Chosen}
use Rattle.gfx_caps.specs.declared.offer.Offer.{Offer}
use Rattle.gfx_caps.specs.declared.versions.TheConstants.{VERSION_8, VERSION_8_1, VERSION_10, THIN_CLIENT, SMALL_CACHE, AVC_DISABLED}
use Rattle.gfx_caps.specs.Choice.{has_flag, allows, qualifies, binds_small, confirmed, first_of, choice}
use Rattle.gfx_caps.specs.Offers.{flags_offered, set_offered, is_small, is_thin, small_of, thin_of, offers_version, offer_of, best_offer}

-- ---- one offer

-- the flags of an offer, by whether it is small, thin and of version 10
abbrev pub flags_from : Bool → Bool → Bool → ℕ
flags_from small thin ten =
    (if small then SMALL_CACHE else 0) + (if thin then THIN_CLIENT else 0) + (if ten then AVC_DISABLED else 0)

-- the body of its set
abbrev pub body_from : Bool → Bool → Bool → List ℕ
body_from small thin ten = digits u32 (flags_from small thin ten)

says_thin : (small thin ten : Bool) → has_flag (number_at w32 (body_from small thin ten) 0) THIN_CLIENT ≡ thin
says_thin true true true = refl
says_thin true true false = refl
says_thin true false true = refl
says_thin true false false = refl
says_thin false true true = refl
says_thin false true false = refl
says_thin false false true = refl
says_thin false false false = refl

and-true : (a b : Bool) → b ≡ true → (a && b) ≡ a
and-true true b e = e
and-true false b e = refl

qualifies-offered : (version : ℕ) (offer : Offer) → qualifies version (set_offered offer) ≡ offers_version version offer
qualifies-offered version offer =
    ap (λ thin. (offer.version == version && true) && allows version thin) (says_thin offer.small offer.thin (offer.version == VERSION_10))
    ∙ ap (λ b. b && allows version offer.thin) (and-true (offer.version == version) true refl)

-- the flags that are kept of an offer
abbrev pub kept_from : Bool → Bool → Bool → Bool → ℕ
kept_from small thin ten keeps =
    bit_and (number_at w32 (body_from small thin ten) 0) (if keeps then SMALL_CACHE + AVC_DISABLED else SMALL_CACHE + THIN_CLIENT)

-- flags bind to the small limits, and say that the client is thin, as others do
abbrev SayAs : ℕ → ℕ → Type 0
SayAs flags others = (binds_small flags ≡ binds_small others) × (has_flag flags THIN_CLIENT ≡ has_flag others THIN_CLIENT)

kept : (small thin ten keeps : Bool) → not (keeps && thin) ≡ true → SayAs (kept_from small thin ten keeps) (flags_from small thin ten)
kept small true ten true allowed = absurd cc
kept true true true false allowed = (refl, refl)
kept true true false false allowed = (refl, refl)
kept true false true true allowed = (refl, refl)
kept true false true false allowed = (refl, refl)
kept true false false true allowed = (refl, refl)
kept true false false false allowed = (refl, refl)
kept false true true false allowed = (refl, refl)
kept false true false false allowed = (refl, refl)
kept false false true true allowed = (refl, refl)
kept false false true false allowed = (refl, refl)
kept false false false true allowed = (refl, refl)
kept false false false false allowed = (refl, refl)

flags_thin : (small thin ten : Bool) → has_flag (flags_from small thin ten) THIN_CLIENT ≡ thin
flags_thin true true true = refl
flags_thin true true false = refl
flags_thin true false true = refl
flags_thin true false false = refl
flags_thin false true true = refl
flags_thin false true false = refl
flags_thin false false true = refl
flags_thin false false false = refl

-- what is confirmed of an offer is small and thin where the offer is
kept-confirmed : (version : ℕ) (offer : Offer) → allows version offer.thin ≡ true → SayAs (confirmed version (set_offered offer)).flags (flags_offered offer)
kept-confirmed version offer allowed = kept offer.small offer.thin (offer.version == VERSION_10) (version == VERSION_10) allowed

-- ---- all offers

-- the first of some that passes a test, where another test tells the same of what they are made of
find-map : {X Y : Type 0} (f : X → Y) (p : Y → Bool) (q : X → Bool) → ((x : X) → p (f x) ≡ q x) → (xs : List X) → find p (map f xs) ≡ option_map f (find q xs)
find-map f p q same [] = refl
find-map f p q same (x ∷ xs) =
    elim (cases_Bool (q x)) [
      | inl passes ↦ rw (same x, passes) refl
      | inr fails ↦ rw (same x, fails) (find-map f p q same xs)
    ]

-- what is found passes the test
first_passes : {X : Type 0} (p : X → Bool) (x : X) (rest : Option X) (b : Bool) → p x ≡ b → IfSome rest (λ y. p y ≡ true) → IfSome (if b then Some x else rest) (λ y. p y ≡ true)
first_passes p x rest true is others = is
first_passes p x rest false is others = others

find-passes : {X : Type 0} (p : X → Bool) (xs : List X) → IfSome (find p xs) (λ x. p x ≡ true)
find-passes p [] = tt
find-passes p (x ∷ xs) = first_passes p x (find p xs) (p x) refl (find-passes p xs)

-- an offer, if there is one, is one that its version allows
abbrev IsAllowed : ℕ → Option Offer → Type 0
IsAllowed version found = IfSome found (λ offer. allows version offer.thin ≡ true)

allowed_if : (version : ℕ) (found : Option Offer) → IfSome found (λ offer. offers_version version offer ≡ true) → IsAllowed version found
allowed_if version None passes = tt
allowed_if version (Some offer) passes = (and_parts (offer.version == version) (allows version offer.thin) passes).1

first_allowed : (version : ℕ) (offers : List Offer) → IsAllowed version (offer_of version offers)
first_allowed version offers = allowed_if version (offer_of version offers) (find-passes (offers_version version) offers)

-- what an offer says, if there is one
abbrev small_in : Option Offer → Bool
small_in None = false
small_in (Some offer) = binds_small (flags_offered offer)

abbrev thin_in : Option Offer → Bool
thin_in None = false
thin_in (Some offer) = has_flag (flags_offered offer) THIN_CLIENT

-- what is confirmed of the sets of three offers, the first that is there
abbrev chosen_in : Option Offer → Option Offer → Option Offer → Option Chosen
chosen_in newest middle oldest =
    option_or (option_map (confirmed VERSION_10) (option_map set_offered newest))
    (option_or (option_map (confirmed VERSION_8_1) (option_map set_offered middle)) (option_map (confirmed VERSION_8) (option_map set_offered oldest)))

-- a choice says as an offer does
abbrev ChoiceSays : Option Chosen → Option Offer → Type 0
ChoiceSays chosen offer = (is_small (ok_or chosen CapsVersion) ≡ small_in offer) × (is_thin (ok_or chosen CapsVersion) ≡ thin_in offer)

chosen-says : (newest middle oldest : Option Offer) → IsAllowed VERSION_10 newest → ChoiceSays (chosen_in newest middle oldest) (option_or newest (option_or middle oldest))
chosen-says (Some offer) middle oldest allowed = kept-confirmed VERSION_10 offer allowed
chosen-says None (Some offer) oldest allowed = kept-confirmed VERSION_8_1 offer refl
chosen-says None None (Some offer) allowed = kept-confirmed VERSION_8 offer refl
chosen-says None None None allowed = (refl, refl)

pub found : (version : ℕ) (offers : List Offer) → first_of version (map set_offered offers) ≡ option_map (confirmed version) (option_map set_offered (offer_of version offers))
found version offers = ap (option_map (confirmed version)) (find-map set_offered (qualifies version) (offers_version version) (qualifies-offered version) offers)

of_best : (offers : List Offer) → (small_of offers ≡ small_in (best_offer offers)) × (thin_of offers ≡ thin_in (best_offer offers))
unfolding choice best_offer
of_best offers =
    rw (found VERSION_10 offers, found VERSION_8_1 offers, found VERSION_8 offers)
    (chosen-says (offer_of VERSION_10 offers) (offer_of VERSION_8_1 offers) (offer_of VERSION_8 offers) (first_allowed VERSION_10 offers))

-- ---- the best of them

pub small-some : (offers : List Offer) (offer : Offer) → best_offer offers ≡ Some offer → binds_small (flags_offered offer) ≡ small_of offers
small-some offers offer is = sym ((of_best offers).0 ∙ ap small_in is)

pub small-none : (offers : List Offer) → best_offer offers ≡ None → false ≡ small_of offers
small-none offers is = sym ((of_best offers).0 ∙ ap small_in is)

pub thin-some : (offers : List Offer) (offer : Offer) → best_offer offers ≡ Some offer → offer.thin ≡ thin_of offers
thin-some offers offer is = sym ((of_best offers).1 ∙ ap thin_in is ∙ flags_thin offer.small offer.thin (offer.version == VERSION_10))

pub thin-none : (offers : List Offer) → best_offer offers ≡ None → false ≡ thin_of offers
thin-none offers is = sym ((of_best offers).1 ∙ ap thin_in is)
