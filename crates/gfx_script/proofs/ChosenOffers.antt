-- Whatever version a server chooses is one of the profile, as it was offered: no flag of a thin client is kept with version 10.
use Rattle.std.proofs.Common.{◌≡◌, ◌∙◌, ◌%◌, ◌^◌, ◌==◌, ◌+◌, ℕ, true, false, not, bit_and, Option, Some, None, Ok, refl, ap, subst, div-one}
use Rattle.std.specs.Prelude.{IfSome}
use Rattle.std.specs.Int.Bits.{and_zero_r}
use Rattle.std.specs.List.{find}
use Rattle.std.specs.Option.{ok_or, option_map, option_or}
use Rattle.std.proofs.lemmas.Bool.{or_left, or_right}
use Rattle.std.proofs.lemmas.Nat.{and_mod}
use Rattle.gfx_base.specs.declared.refusal.Refusal.TheVariants.{CapsVersion}
use Rattle.gfx_caps.specs.declared.choice.Chosen.{Chosen}
use Rattle.gfx_caps.specs.declared.sets.CapsSet.{CapsSet}
use Rattle.gfx_caps.specs.declared.versions.TheConstants.{AVC_DISABLED, SMALL_CACHE, THIN_CLIENT, VERSION_8, VERSION_8_1, VERSION_10}
use Rattle.gfx_caps.specs.Choice.{choice, confirmed, first_of, flags_of, has_flag, qualifies}
use Rattle.gfx_caps.specs.Offers.{IsOffer, offers_version}
use Rattle.gfx_script.specs.Heads.{ChosenAreOffers, offer_chosen}

-- a choice is of this version
abbrev IsOf : ℕ → Chosen → Type 0
IsOf version chosen = offers_version version (offer_chosen chosen) ≡ true

-- no thin client is left where the flags of version 10 are kept
not_thin : (flags : ℕ) → has_flag (bit_and flags (SMALL_CACHE + AVC_DISABLED)) THIN_CLIENT ≡ false
not_thin flags =
    ap (λ n. n % 2 == 1) (div-one (bit_and flags (SMALL_CACHE + AVC_DISABLED)))
    ∙ ap (λ n. n == 1) (and_mod flags (SMALL_CACHE + AVC_DISABLED) 1 ∙ and_zero_r (flags % 2 ^ 1))

newest : (set : Option CapsSet) → IfSome (option_map (confirmed VERSION_10) set) (IsOf VERSION_10)
newest None = tt
newest (Some set) = ap not (not_thin (flags_of set))

middle : (set : Option CapsSet) → IfSome (option_map (confirmed VERSION_8_1) set) (IsOf VERSION_8_1)
middle None = tt
middle (Some set) = refl

oldest : (set : Option CapsSet) → IfSome (option_map (confirmed VERSION_8) set) (IsOf VERSION_8)
oldest None = tt
oldest (Some set) = refl

one_of : (ten eight_one eight : Option Chosen) (chosen : Chosen) → IfSome ten (IsOf VERSION_10) → IfSome eight_one (IsOf VERSION_8_1) → IfSome eight (IsOf VERSION_8)
    → ok_or (option_or ten (option_or eight_one eight)) CapsVersion ≡ Ok chosen → IsOffer (offer_chosen chosen)
one_of (Some one) eight_one eight chosen first second third is =
    let same : one ≡ chosen = cc in
    subst (λ c. IsOffer (offer_chosen c)) same (or_left (offers_version VERSION_10 (offer_chosen one)) _ first)
one_of None (Some one) eight chosen first second third is =
    let same : one ≡ chosen = cc in
    subst (λ c. IsOffer (offer_chosen c)) same (or_right (offers_version VERSION_10 (offer_chosen one)) _ (or_left (offers_version VERSION_8_1 (offer_chosen one)) _ second))
one_of None None (Some one) chosen first second third is =
    let same : one ≡ chosen = cc in
    subst (λ c. IsOffer (offer_chosen c)) same
    (or_right (offers_version VERSION_10 (offer_chosen one)) _ (or_right (offers_version VERSION_8_1 (offer_chosen one)) (offers_version VERSION_8 (offer_chosen one)) third))
one_of None None None chosen first second third is = absurd cc

pub chosen_offered : ChosenAreOffers
unfolding choice
chosen_offered sets chosen is =
    one_of (first_of VERSION_10 sets) (first_of VERSION_8_1 sets) (first_of VERSION_8 sets) chosen
    (newest (find (qualifies VERSION_10) sets)) (middle (find (qualifies VERSION_8_1) sets)) (oldest (find (qualifies VERSION_8) sets)) is
