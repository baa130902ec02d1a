-- What a client says that offers versions ([MS-RDPEGFX] 2.2.2.18 and 2.2.3): this project's client decodes
-- no AVC, and says so where the version has a flag for it.
use Rattle.std.specs.Prelude.{ℕ, ◌+◌, ◌==◌, Bool, false, ◌&&◌, ◌||◌, IsTrue, List, map, Option, Result, Ok, Err, if◌then◌else◌}
use Rattle.std.specs.List.{find}
use Rattle.std.specs.Option.{option_or}
use Rattle.gfx_base.specs.declared.refusal.Refusal.{Refusal}
use Rattle.gfx_layout.specs.Shape.{digits, u32}
use Rattle.gfx_caps.specs.declared.choice.Chosen.{Chosen}
use Rattle.gfx_caps.specs.declared.message.ClientPdu.{ClientPdu}
use Rattle.gfx_caps.specs.declared.message.ClientPdu.TheVariants.{Advertise}
use Rattle.gfx_caps.specs.declared.offer.Offer.{Offer}
use Rattle.gfx_caps.specs.declared.sets.CapsSet.{CapsSet}
use Rattle.gfx_caps.specs.declared.versions.TheConstants.{VERSION_8, VERSION_8_1, VERSION_10, THIN_CLIENT, SMALL_CACHE, AVC_DISABLED}
use Rattle.gfx_caps.specs.Choice.{has_flag, allows, binds_small, choice}

-- the flags of an offer
abbrev pub flags_offered : Offer → ℕ
flags_offered offer =
    (if offer.small then SMALL_CACHE else 0) + (if offer.thin then THIN_CLIENT else 0)
    + (if offer.version == VERSION_10 then AVC_DISABLED else 0)

-- the capability set of an offer
abbrev pub set_offered : Offer → CapsSet
set_offered offer = record { version = offer.version; body = digits u32 (flags_offered offer) }

-- the message that offers these versions
abbrev pub advertised : List Offer → ClientPdu
advertised offers = Advertise (map set_offered offers)

-- a choice binds the client to the small limits on bitmaps
abbrev pub is_small : Result Chosen Refusal → Bool
is_small (Ok chosen) = binds_small chosen.flags
is_small (Err r) = false

-- a choice is of a thin client
abbrev pub is_thin : Result Chosen Refusal → Bool
is_thin (Ok chosen) = has_flag chosen.flags THIN_CLIENT
is_thin (Err r) = false

-- an offer is of this version, and for a thin client only where the version allows it
abbrev pub offers_version : ℕ → Offer → Bool
offers_version version offer = offer.version == version && allows version offer.thin

-- the first offer of a version
abbrev pub offer_of : ℕ → List Offer → Option Offer
offer_of version offers = find (offers_version version) offers

-- the first offer of the highest version
unfoldable pub best_offer : List Offer → Option Offer
best_offer offers = option_or (offer_of VERSION_10 offers) (option_or (offer_of VERSION_8_1 offers) (offer_of VERSION_8 offers))

-- an offer is of a version of this profile
abbrev pub is_offer : Offer → Bool
is_offer offer = offers_version VERSION_10 offer || (offers_version VERSION_8_1 offer || offers_version VERSION_8 offer)

abbrev pub IsOffer : Offer → Type 0
IsOffer offer = IsTrue (is_offer offer)

-- the version that a server chooses of these offers binds the client to the small limits on bitmaps
abbrev pub small_of : List Offer → Bool
small_of offers = is_small (choice (map set_offered offers))

-- it is that of a thin client
abbrev pub thin_of : List Offer → Bool
thin_of offers = is_thin (choice (map set_offered offers))
